-- What a writing and a reading answer, case by case, and what they and a move do not. Assumes nothing.
use Prim.Native.Nat.{ℕ, ◌-◌, ◌≤◌}
use native.Mathlib.Omega.{arith}
use mathlib.Core.Path.{◌≡◌, refl, sym, ap, ap₂, ◌∙◌}
use mathlib.Core.Bool.{Bool, true, false, cond, ◌&&◌, and-true}
use Rattle.std.proofs.Common.{Some, None, Ok, Err}
use Rattle.std.specs.Option.{ok_or}
use Rattle.board.specs.declared.refusal.Refusal.{Refusal}
use Rattle.board.specs.Refusals.{refusal_number}
use Rattle.std.proofs.lemmas.Option.{cond_some}
use Rattle.channel.specs.declared.HardwareTimer.{HardwareTimer}
use Rattle.clock.specs.declared.Clock.{Clock}
use Rattle.controller.specs.declared.IrqController.{IrqController}
use Rattle.parking.specs.declared.get.LatchesSaid.{LatchesSaid}
use Rattle.parking.specs.declared.get.BoardSaid.{BoardSaid}
use mathlib.Core.List.{List, [], ◌∷◌, ◌++◌}
use lib.ListN.{length, get_or, take, drop}
use lib.Seq.{sets}
use lib.Dec.{ltb, eqb}
use borrow.Author.Tests.{eq-eqb, eqb-false, ltb-false}
use Rattle.format.proofs.Frames.{part_rest, sets_front}
use Rattle.wide.proofs.Choices.{choose, either}
use Rattle.clock.specs.Clock.{rate_of}
use Rattle.clock.specs.Fields.{fresh_rate}
use Rattle.board.specs.declared.Board.{Board}
use Rattle.board.specs.Fields.{fresh_board}
use Rattle.board.specs.Board.{sound}
use Rattle.board.specs.Calls.{not_sound, another_rate, refusal_of}
use Rattle.board.proofs.Answers.{accepted_sound, some_refusal, unsound_first}
use Rattle.image.specs.Image.{
  Field,
  channel_field,
  clock_field,
  latches_field,
  controller_field,
  rate_field,
  layout,
  image_length,
  image_of,
  field_at,
  fields_at,
  formed,
  members_from,
  timer_from,
  clock_from,
  latches_from,
  empties_hold0,
  controller_from,
  board_from,
}
use Rattle.image.specs.CodeTables.{members_in}
use Rattle.image.specs.declared.Form.{Form}
use Rattle.image.specs.declared.Form.TheVariants.{Old, New}
use Rattle.parking.specs.Parking.{
  default_form,
  rate_needs_new_form,
  form_takes,
  parking_refusal,
  writing_refusal,
  writing_of,
  buffer_after,
  image_malformed,
  said,
  empties_in,
  board_in,
  sound_in,
  form_refusal,
  reading_in,
  form_of,
  reading_of,
}
use Rattle.parking.specs.CodeReads.{members_read}
use Rattle.parking.specs.Moves.{other_form, move_refusal}
use Rattle.image.proofs.Fields.{image-length}
use Rattle.parking.proofs.Shifted.{said-behind, formed-behind}
use Rattle.parking.proofs.RoundTrip.{formed_not}

-- ---- refusals

-- a value that the code looks for: where it is not there, the test fails and the refusal is this one
pub none_found : {A : Type 0} (v : Bool) (x : A) (e d : Refusal) → Err d ≡ ok_or (cond v (Some x) None) e →
    (v ≡ false) × (d ≡ e)
none_found true x e d h = absurd cc
none_found false x e d h = (refl, cc)

pub one_found : {A : Type 0} (v : Bool) (x y : A) (e : Refusal) → Ok y ≡ ok_or (cond v (Some x) None) e →
    (v ≡ true) × (y ≡ x)
one_found true x y e h = (refl, cc)
one_found false x y e h = absurd cc

-- of a board that is not sound
pub unsound_found : (b : Board) (d : Refusal) → refusal_number d ≡ refusal_of b 0 →
    (sound b ≡ false) × (refusal_number d ≡ not_sound)
unsound_found b d e =
    either (sound b)
    (λ s. let z : refusal_number d ≡ 0 = e ∙ rw s refl in
    absurd (eqb-false (refusal_number d) 0 (some_refusal d) z))
    (λ s. (s, e ∙ rw s refl))

-- ---- the form of an image

-- the board of what is read of each field
abbrev said_by : (a b c d : HardwareTimer) → ℕ × Clock → LatchesSaid → IrqController → BoardSaid
said_by a b c d k x q =
    record {
      empties_hold_0 = x.empties_hold_0;
      board =
          record {
            timers = a ∷ b ∷ c ∷ d ∷ [];
            timer_enable = k.0;
            clock = k.1;
            latches = x.latches;
            controller = q;
          };
    }

module _ (l : List ℕ) where
  abbrev at : ℕ → Field → Bool
  at k f = field_at l k f

  -- seven fields, where the bytes are as many as an image of the old form has
  pub formed-is : length l ≡ image_length Old →
      (at 0 channel_field && (at 38 channel_field && (at 76 channel_field && (at 114 channel_field
      && (at 152 clock_field && (at 227 latches_field && at 260 controller_field))))))
      ≡ formed Old l
  unfolding fields_at
  formed-is e = rw (eq-eqb (length l) 269 e, and-true)

  -- so the board is there where they all are
  pub board-read : length l ≡ image_length Old → (rate : ℕ) (a b c d : HardwareTimer) (k : ℕ × Clock)
      (x : LatchesSaid) (q : IrqController) →
      Some a ≡ cond (at 0 channel_field) (Some (timer_from (members_in channel_field l 0))) None →
      Some b ≡ cond (at 38 channel_field) (Some (timer_from (members_in channel_field l 38))) None →
      Some c ≡ cond (at 76 channel_field) (Some (timer_from (members_in channel_field l 76))) None →
      Some d ≡ cond (at 114 channel_field) (Some (timer_from (members_in channel_field l 114))) None →
      Some k ≡ cond (at 152 clock_field)
      (Some (get_or (members_in clock_field l 152) 0 0, clock_from rate (members_in clock_field l 152))) None →
      Some x ≡ cond (at 227 latches_field)
      (Some (record {
        empties_hold_0 = empties_hold0 (members_in latches_field l 227);
        latches = latches_from (members_in latches_field l 227);
      })) None →
      Some q ≡ cond (at 260 controller_field) (Some (controller_from (members_in controller_field l 260))) None →
      Some (said_by a b c d k x q)
      ≡ cond (formed Old l)
      (Some (record { empties_hold_0 = empties_in Old l; board = board_from rate (said Old l) })) None
  unfolding board_from members_from
  board-read long rate a b c d k x q e₁ e₂ e₃ e₄ e₅ e₆ e₇ =
      let s₁ = cond_some _ _ _ (sym e₁) in
      let s₂ = cond_some _ _ _ (sym e₂) in
      let s₃ = cond_some _ _ _ (sym e₃) in
      let s₄ = cond_some _ _ _ (sym e₄) in
      let s₅ = cond_some _ _ _ (sym e₅) in
      let s₆ = cond_some _ _ _ (sym e₆) in
      let s₇ = cond_some _ _ _ (sym e₇) in
      rw (← formed-is long, s₁.0, s₂.0, s₃.0, s₄.0, s₅.0, s₆.0, s₇.0) cc

-- in the new form, the rate's field, and behind it the bytes of the old
module _ (l : List ℕ) (long : length l ≡ image_length New) where
  abbrev rest : List ℕ
  rest = take (length l - 7) (drop 7 l)

  rest-formed : formed Old rest ≡ fields_at l 7 layout
  rest-formed = ap (formed Old) (part_rest l 7) ∙ formed-behind l 7 (omega (arith, long)) 0 layout

  rest-said : said Old rest ≡ members_from l 7 layout
  rest-said = ap (said Old) (part_rest l 7) ∙ said-behind l 7 0 layout

  -- with its first field
  pub new-read : (rate : ℕ) → field_at l 0 rate_field ≡ true → rate ≡ get_or (members_in rate_field l 0) 0 0 →
      members_read New rate (formed Old rest) (said Old rest) ≡ reading_in New l
  unfolding reading_in form_refusal members_read fields_at members_from
  new-read rate e r =
      ap₂ (members_read New rate) rest-formed rest-said
      ∙ ap (λ (n : ℕ). members_read New n (fields_at l 7 layout) (members_from l 7 layout)) r
      ∙ rw e refl

  -- without it
  pub new-missing : field_at l 0 rate_field ≡ false → formed New l ≡ false
  unfolding fields_at
  new-missing e = rw e refl

-- in the old form nothing stands ahead
pub old_read : (l : List ℕ) → members_read Old fresh_rate (formed Old l) (said Old l) ≡ reading_in Old l
unfolding reading_in form_refusal members_read
old_read l = refl

-- ---- a reading

-- of S-1's fields, by the code's tests
module _ (f : Form) (rate : ℕ) (form : Bool) (mss : List (List ℕ)) where
  -- 12
  pub members-malformed : form ≡ false →
      record { board = fresh_board; form = default_form; refusal = image_malformed } ≡ members_read f rate form mss
  unfolding members_read
  members-malformed e = rw e

  module _ (h : form ≡ true) (v : Bool) (empties : v ≡ empties_hold0 (get_or mss 5 [])) where
    -- 1, by an empty latch that does not hold 0
    pub members-kept : v ≡ false →
        record { board = fresh_board; form = default_form; refusal = not_sound } ≡ members_read f rate form mss
    unfolding members_read
    members-kept e = rw (h, sym empties ∙ e)

    module _ (t : v ≡ true) (b : Board) (said-board : b ≡ board_from rate mss) where
      -- 1, by the board
      pub members-unsound : sound b ≡ false →
          record { board = fresh_board; form = default_form; refusal = not_sound } ≡ members_read f rate form mss
      unfolding members_read
      members-unsound e = rw (h, sym empties ∙ t, ← said-board, e)

      pub members-accepted : sound b ≡ true →
          record { board = b; form = f; refusal = 0 } ≡ members_read f rate form mss
      unfolding members_read
      members-accepted e = rw (h, sym empties ∙ t, ← said-board, e)

-- bytes that are not formed so
pub reading_malformed : (f : Form) (l : List ℕ) → formed f l ≡ false →
    record { board = fresh_board; form = default_form; refusal = image_malformed } ≡ reading_in f l
unfolding reading_in form_refusal
reading_malformed f l e = rw e

-- by its length an image is read in the form that it has
module _ (l : List ℕ) where
  pub read-new : length l ≡ image_length New → reading_in New l ≡ reading_of l
  unfolding reading_of form_of
  read-new long =
      either (formed New l) (λ e. rw e refl)
      (λ e. rw e
      (sym (reading_malformed New l e)
      ∙ reading_malformed Old l (formed_not Old l (λ same. omega (arith, long, same)))))

  pub read-old : (length l ≡ image_length New → ⊥) → reading_in Old l ≡ reading_of l
  unfolding reading_of form_of
  read-old n = rw (formed_not New l n) refl

  pub read-by-length : (f : Form) → length l ≡ image_length f → reading_of l ≡ reading_in f l
  read-by-length New long = sym (read-new long)
  read-by-length Old long = sym (read-old (λ same. omega (arith, long, same)))

-- ---- a writing

module _ (f : Form) (b : Board) (old : List ℕ) where
  -- 1 comes first
  pub writing-unsound : (d : Refusal) → refusal_number d ≡ refusal_of b 0 →
      refusal_number d ≡ writing_refusal f b (length old)
  writing-unsound d e = unsound_first b _ d e

  -- then what refuses a sound board
  pub writing-own : sound b ≡ true → (r : ℕ) → r ≡ parking_refusal f (rate_of b.clock) (length old) →
      r ≡ writing_refusal f b (length old)
  writing-own s r e = e ∙ rw s refl

  -- refused
  module _ (d : Refusal) (told : refusal_number d ≡ writing_refusal f b (length old)) where
    other : eqb (writing_refusal f b (length old)) 0 ≡ false
    other = ap (λ (k : ℕ). eqb k 0) (sym told) ∙ some_refusal d

    pub writing-refused :
        record { board = b; refusal = refusal_number d; written = 0 } ≡ writing_of f b (length old)
    unfolding writing_of
    writing-refused = rw (other, told)

    pub buffer-left : old ≡ buffer_after f b old
    unfolding buffer_after
    buffer-left = rw other

  -- accepted
  module _ (z : 0 ≡ writing_refusal f b (length old)) where
    none : eqb (writing_refusal f b (length old)) 0 ≡ true
    none = eq-eqb _ 0 (sym z)

    pub writing-accepted : record { board = b; refusal = 0; written = image_length f } ≡ writing_of f b (length old)
    unfolding writing_of
    writing-accepted = rw (none, ← z)

    -- then the board is sound, the form takes its rate, and there is room
    writing-sound : sound b ≡ true
    writing-sound = accepted_sound b (parking_refusal f (rate_of b.clock) (length old)) (sym z)

    pub writing-rate : form_takes f (rate_of b.clock) ≡ true
    writing-rate =
        either (form_takes f (rate_of b.clock)) (λ h. h)
        (λ h. let other : ◌≡◌ {A = ℕ} 16 0 = rw (writing-sound, h) at (sym z) in absurd (omega (arith, other)))

    writing-room : image_length f ≤ length old
    writing-room =
        either (ltb (length old) (image_length f))
        (λ h. let short : ◌≡◌ {A = ℕ} 11 0 = rw (writing-sound, writing-rate, h) at (sym z) in
        absurd (omega (arith, short)))
        (λ h. ltb-false (length old) (image_length f) h)

    pub buffer-written : (new : List ℕ) → new ≡ sets old 0 (image_of f b) → new ≡ buffer_after f b old
    unfolding buffer_after
    buffer-written new e =
        let n = image-length f b in
        e
        ∙ sets_front old (image_of f b) (omega (arith, n, writing-room))
        ∙ ap (λ (k : ℕ). image_of f b ++ drop k old) n
        ∙ rw none refl

-- ---- refusals that do not arise: S-8, '15 no longer arises in parking', and 16 arises in the old form alone

-- a refusal is not this one
abbrev Never : ℕ → ℕ → Type 0
Never k r = r ≡ k → ⊥

parking_15 : (f : Form) (rate room : ℕ) → Never another_rate (parking_refusal f rate room)
parking_15 f rate room =
    choose (Never another_rate) (form_takes f rate)
    (λ _. choose (Never another_rate) (ltb room (image_length f)) (λ _ e. omega (arith, e)) (λ _ e. omega (arith, e)))
    (λ _ e. omega (arith, e))

new_16 : (rate room : ℕ) → Never rate_needs_new_form (parking_refusal New rate room)
new_16 rate room =
    choose (Never rate_needs_new_form) (ltb room (image_length New)) (λ _ e. omega (arith, e)) (λ _ e. omega (arith, e))

-- of a writing
pub writing_never_15 : (f : Form) (b : Board) (room : ℕ) → Never another_rate (writing_refusal f b room)
writing_never_15 f b room =
    choose (Never another_rate) (sound b) (λ _. parking_15 f (rate_of b.clock) room) (λ _ e. omega (arith, e))

pub new_never_16 : (b : Board) (room : ℕ) → Never rate_needs_new_form (writing_refusal New b room)
new_never_16 b room =
    choose (Never rate_needs_new_form) (sound b) (λ _. new_16 (rate_of b.clock) room) (λ _ e. omega (arith, e))

-- of a move: what its image is refused with is 12 or 1
image_never : (k : ℕ) → Never k 0 → Never k 1 → Never k 12 → (f : Form) (l : List ℕ) → Never k (form_refusal f l)
unfolding form_refusal
image_never k p q r f l = choose (Never k) (formed f l) (λ _. choose (Never k) (sound_in f l) (λ _. p) (λ _. q))
    (λ _. r)

pub move_never_15 : (to : Form) (l : List ℕ) (room : ℕ) → Never another_rate (move_refusal to l room)
unfolding move_refusal
move_never_15 to l room =
    choose (Never another_rate) (eqb (form_refusal (other_form to) l) 0) (λ _. parking_15 to _ room)
    (λ _. image_never another_rate (λ e. omega (arith, e)) (λ e. omega (arith, e)) (λ e. omega (arith, e))
    (other_form to) l)

pub forward_never_16 : (l : List ℕ) (room : ℕ) → Never rate_needs_new_form (move_refusal New l room)
unfolding move_refusal
forward_never_16 l room =
    choose (Never rate_needs_new_form) (eqb (form_refusal Old l) 0) (λ _. new_16 (rate_of (board_in Old l).clock) room)
    (λ _. image_never rate_needs_new_form (λ e. omega (arith, e)) (λ e. omega (arith, e)) (λ e. omega (arith, e)) Old l)
