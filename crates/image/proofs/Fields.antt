-- The fields of an image one behind another: their lengths, and how they are stored. Assumes nothing.
use Prim.Native.Nat.{ℕ, ◌+◌, ◌-◌, ◌*◌, ◌≤◌, ◌<◌}
use native.Mathlib.Numerals.{add-one}
use Rattle.std.proofs.lemmas.List.{length-take-le, take_all}
use native.Mathlib.Nat.{zero-add}
use native.Mathlib.Omega.{arith}
use mathlib.Core.Path.{◌≡◌, refl, sym, ap, ap₂, ◌∙◌}
use mathlib.Core.List.{List, [], ◌∷◌, ◌++◌, map, append_assoc, append-nil}
use lib.ListN.{length, get_or, take, drop, length-append, length-map, length-drop, drop_of_length-le}
use lib.Seq.{take-suc, sets, length-sets, sets-eq, drop-drop}
use Rattle.format.specs.Format.{members_bytes}
use Rattle.format.proofs.Frames.{part_rest, sets_then, sets_front, record-length, members-length}
use Rattle.channel.specs.declared.HardwareTimer.{HardwareTimer}
use Rattle.clock.specs.Clock.{rate_of}
use mir.Val.{bool_byte}
use Rattle.std.proofs.Common.{None, Some}
use Rattle.std.specs.Option.{is_some, unwrap_or}
use Rattle.board.specs.Fields.{Latch}
use Rattle.board.specs.declared.CountLatch.{CountLatch}
use Rattle.board.specs.declared.Board.{Board}
use Rattle.board.specs.Board.{held_value}
use Rattle.board.proofs.Loops.{by_four}
use Rattle.wide.proofs.Bits.{byte_flag}
use Rattle.image.specs.Image.{
  Field,
  widths_of,
  channel_field,
  clock_field,
  latches_field,
  controller_field,
  rate_field,
  layout_of,
  field_length,
  fields_length,
  image_length,
  timer_members,
  clock_members,
  latches_members,
  controller_members,
  form_members,
  field_bytes,
  fields_bytes,
  image_of,
}
use Rattle.image.specs.declared.Form.{Form}
use Rattle.image.specs.declared.Form.TheVariants.{Old, New}
use Rattle.image.specs.CodeTables.{
  channels,
  channels_bytes,
  clock_at,
  latches_at,
  controller_at,
  front_bytes,
  front_length,
}

-- a list of four is its four elements
four_is : {A : Type 0} (d : A) (xs : List A) → length xs ≡ 4 →
    xs ≡ get_or xs 0 d ∷ get_or xs 1 d ∷ get_or xs 2 d ∷ get_or xs 3 d ∷ []
four_is d =
    by_four (λ xs. xs ≡ get_or xs 0 d ∷ get_or xs 1 d ∷ get_or xs 2 d ∷ get_or xs 3 d ∷ []) (λ _ _ _ _. refl)

-- ---- lengths

pub field-length : (f : Field) (ms : List ℕ) → length (field_bytes f ms) ≡ field_length f
unfolding field_bytes
field-length f ms =
    record-length f.tag (members_bytes (widths_of f.members) ms)
    ∙ ap (λ (n : ℕ). 3 + n) (members-length (widths_of f.members) ms)

pub fields-length : (fs : List Field) (mss : List (List ℕ)) → length (fields_bytes fs mss) ≡ fields_length fs
unfolding fields_bytes
fields-length [] mss = refl
fields-length (f ∷ fs) mss =
    length-append (field_bytes f (get_or mss 0 [])) _ ∙ ap₂ ◌+◌ (field-length f (get_or mss 0 [])) (fields-length fs _)

pub image-length : (f : Form) (b : Board) → length (image_of f b) ≡ image_length f
unfolding image_of
image-length f b = fields-length (layout_of f) (form_members f b)

-- ---- parts

pub fields_append : (fs gs : List Field) (mss nss : List (List ℕ)) → length mss ≡ length fs →
    fields_bytes (fs ++ gs) (mss ++ nss) ≡ fields_bytes fs mss ++ fields_bytes gs nss
unfolding fields_bytes
fields_append [] gs [] nss e = refl
fields_append [] gs (ms ∷ mss) nss e = absurd (omega (arith, e))
fields_append (f ∷ fs) gs [] nss e = absurd (omega (arith, e))
fields_append (f ∷ fs) gs (ms ∷ mss) nss e =
    ap (λ (l : List ℕ). field_bytes f ms ++ l) (fields_append fs gs mss nss (omega (arith, e)))
    ∙ sym (append_assoc (field_bytes f ms) (fields_bytes fs mss) (fields_bytes gs nss))

-- the fields behind the channels'
abbrev others : List Field
others = clock_field ∷ latches_field ∷ controller_field ∷ []

abbrev other_members : Board → List (List ℕ)
other_members b =
    clock_members b.timer_enable b.clock ∷ latches_members b.latches ∷ controller_members b.controller ∷ []

-- ---- stores

-- some bytes, and others right behind them
stored_then : (x y z : List ℕ) (a b n : ℕ) (xs ys : List ℕ) → y ≡ sets x a xs → length xs ≡ n → b ≡ a + n →
    z ≡ sets y b ys → z ≡ sets x a (xs ++ ys)
stored_then x y z a b n xs ys e l i f =
    f ∙ ap (λ (s : List ℕ). sets s b ys) e ∙ ap (λ (j : ℕ). sets (sets x a xs) j ys) i ∙ sets_then x a n xs ys l

-- the fields of some channels
abbrev pub timers_bytes : List HardwareTimer → List ℕ
timers_bytes [] = []
timers_bytes (t ∷ ts) = field_bytes channel_field (timer_members t) ++ timers_bytes ts

timers-length : (ts : List HardwareTimer) → length (timers_bytes ts) ≡ length ts * 38
timers-length [] = refl
timers-length (t ∷ ts) =
    length-append (field_bytes channel_field (timer_members t)) (timers_bytes ts)
    ∙ omega (arith, field-length channel_field (timer_members t), timers-length ts)

timers_append : (ts : List HardwareTimer) (t : HardwareTimer) →
    timers_bytes (ts ++ (t ∷ [])) ≡ timers_bytes ts ++ field_bytes channel_field (timer_members t)
timers_append [] t = append-nil (field_bytes channel_field (timer_members t))
timers_append (s ∷ ts) t =
    ap (λ (l : List ℕ). field_bytes channel_field (timer_members s) ++ l) (timers_append ts t)
    ∙ sym (append_assoc (field_bytes channel_field (timer_members s)) (timers_bytes ts) _)

-- one field more, behind those of the channels before index i
pub channel_stored : (ts : List HardwareTimer) (x y z : List ℕ) (i : ℕ) (d : HardwareTimer) →
    y ≡ sets x 0 (timers_bytes (take i ts)) → i < length ts →
    z ≡ sets y (i * 38) (field_bytes channel_field (timer_members (get_or ts i d))) →
    z ≡ sets x 0 (timers_bytes (take (i + 1) ts))
channel_stored ts x y z i d e l f =
    let long : length (take i ts) ≡ i = length-take-le i ts (omega (arith, l)) in
    let n : length (timers_bytes (take i ts)) ≡ i * 38 = timers-length (take i ts) ∙ ap (λ (k : ℕ). k * 38) long in
    rw (add-one, take-suc ts i d l, timers_append)
    (stored_then x y z 0 (i * 38) (i * 38) (timers_bytes (take i ts)) _ e n (sym (zero-add (i * 38))) f)

-- those of all four
four_bytes : (ts : List HardwareTimer) → length ts ≡ 4 → timers_bytes ts ≡ channels_bytes ts
unfolding fields_bytes
four_bytes = by_four (λ ts. timers_bytes ts ≡ channels_bytes ts) (λ _ _ _ _. refl)

pub channels_stored : (ts : List HardwareTimer) → length ts ≡ 4 → (x y : List ℕ) (i : ℕ) → 4 ≤ i →
    y ≡ sets x 0 (timers_bytes (take i ts)) → y ≡ sets x 0 (channels_bytes ts)
channels_stored ts four x y i h e =
    e ∙ ap (λ (l : List HardwareTimer). sets x 0 (timers_bytes l)) (take_all i ts (omega (arith, four, h)))
    ∙ ap (sets x 0) (four_bytes ts four)

-- the image in the old form: the channels' fields, and the three behind them
pub old_stored : (b : Board) → length b.timers ≡ 4 → (x y z u v : List ℕ) →
    y ≡ sets x 0 (channels_bytes b.timers) →
    z ≡ sets y clock_at (field_bytes clock_field (clock_members b.timer_enable b.clock)) →
    u ≡ sets z latches_at (field_bytes latches_field (latches_members b.latches)) →
    v ≡ sets u controller_at (field_bytes controller_field (controller_members b.controller)) →
    v ≡ sets x 0 (image_of Old b)
unfolding image_of fields_bytes
old_stored b four x y z u v e f g h =
    let k = field_bytes clock_field (clock_members b.timer_enable b.clock) in
    let l = field_bytes latches_field (latches_members b.latches) in
    let q = field_bytes controller_field (controller_members b.controller) in
    let rest = k ++ (l ++ (q ++ [])) in
    let last : v ≡ sets u controller_at (q ++ []) = h ∙ ap (sets u controller_at) (sym (append-nil q)) in
    let behind : v ≡ sets y clock_at rest =
    stored_then y z v clock_at latches_at 75 k (l ++ (q ++ [])) f (field-length clock_field _) refl
    (stored_then z u v latches_at controller_at 33 l (q ++ []) g (field-length latches_field _) refl last) in
    let whole : v ≡ sets x 0 (channels_bytes b.timers ++ rest) =
    stored_then x y v 0 clock_at clock_at (channels_bytes b.timers) rest e
    (fields-length channels (map timer_members b.timers)) refl behind in
    whole
    ∙ ap (sets x 0)
    (sym (fields_append channels others (map timer_members b.timers) (other_members b)
    (length-map b.timers timer_members ∙ four)))

-- an image is what stands ahead of S-1's fields, and the old form
pub front_image : (f : Form) (b : Board) → image_of f b ≡ front_bytes f (rate_of b.clock) ++ image_of Old b
unfolding image_of fields_bytes
front_image Old b = refl
front_image New b = refl

front_length_lem : (f : Form) (rate : ℕ) → length (front_bytes f rate) ≡ front_length f
front_length_lem Old rate = refl
front_length_lem New rate = field-length rate_field (rate ∷ [])

pub whole_length : (f : Form) → image_length f ≡ front_length f + image_length Old
whole_length Old = refl
whole_length New = refl

-- a store into the bytes from an index on, which go back to their place
part_stored : (y vs : List ℕ) (n : ℕ) → n + length vs ≤ length y →
    take n y ++ (sets (take (length y - n) (drop n y)) 0 vs ++ drop (length y - n) (drop n y)) ≡ sets y n vs
part_stored y vs n h =
    let over : drop (length y - n) (drop n y) ≡ [] =
    drop_of_length-le (drop n y) {i = length y - n} (omega (arith, length-drop n y)) in
    ap₂ (λ (p q : List ℕ). take n y ++ (sets p 0 vs ++ q)) (part_rest y n) over
    ∙ ap (λ (l : List ℕ). take n y ++ l) (append-nil (sets (drop n y) 0 vs))
    ∙ ap (λ (l : List ℕ). take n y ++ l)
    (sets_front (drop n y) vs (omega (arith, h, length-drop n y))
    ∙ ap (λ (l : List ℕ). vs ++ l) (drop-drop (length vs) n y))
    ∙ sym (append_assoc (take n y) vs (drop (n + length vs) y))
    ∙ sym (sets-eq vs y n h)

-- so it is stored: y is the buffer with what stands ahead, and the old form goes into the bytes behind that
module _ (f : Form) (b : Board) (x y : List ℕ) (room : image_length f ≤ length x) (n : ℕ) (at : n ≡ front_length f)
    (e : y ≡ sets x 0 (front_bytes f (rate_of b.clock))) where
  same_length : length y ≡ length x
  same_length = ap length e ∙ length-sets x 0 (front_bytes f (rate_of b.clock))

  pub image-stored : (z : List ℕ) → z ≡ sets (take (length y - n) (drop n y)) 0 (image_of Old b) →
      take n y ++ (z ++ drop (length y - n) (drop n y)) ≡ sets x 0 (image_of f b)
  image-stored z h =
      let put : take n y ++ (z ++ drop (length y - n) (drop n y)) ≡ sets y n (image_of Old b) =
      ap (λ (l : List ℕ). take n y ++ (l ++ drop (length y - n) (drop n y))) h
      ∙ part_stored y (image_of Old b) n (omega (arith, room, same_length, at, whole_length f, image-length Old b)) in
      stored_then x y _ 0 n n (front_bytes f (rate_of b.clock)) (image_of Old b) e
      (front_length_lem f (rate_of b.clock) ∙ sym at) (sym (zero-add n)) put
      ∙ ap (sets x 0) (sym (front_image f b))

-- ---- the latches' field

-- no latch
abbrev none : CountLatch
none = record { high = None }

-- a latch's held flag and value, as the code finds them
abbrev found : Latch → List ℕ
found l = bool_byte (is_some l) ∷ unwrap_or l 0 ∷ []

value-is : (l : Latch) → unwrap_or l 0 ≡ held_value l
value-is None = refl
value-is (Some v) = refl

-- the members are those of six latches
pub latches_stored : (cs : List CountLatch) → length cs ≡ 4 → (low high : Latch) (x y : List ℕ) →
    y ≡ sets x latches_at (field_bytes latches_field
    (found (get_or cs 0 none).high ++ found (get_or cs 1 none).high ++ found (get_or cs 2 none).high
    ++ found (get_or cs 3 none).high ++ found low ++ found high)) →
    y ≡ sets x latches_at (field_bytes latches_field (latches_members (record { counts = cs; low = low; high = high })))
latches_stored cs four low high x y e =
    (simp (byte_flag, value-is) at e)
    ∙ ap
    (λ (xs : List CountLatch).
    sets x latches_at (field_bytes latches_field (latches_members (record { counts = xs; low = low; high = high }))))
    (sym (four_is none cs four))
