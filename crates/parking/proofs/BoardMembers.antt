-- A board and its members, there and back: the members of a sound board fit the layout and say that board, and members
-- that fit the layout are those of the board that they say, which is within its widths. Assumes nothing.
use Prim.Native.Nat.{ℕ, zero, suc, ◌+◌, ◌^◌, ◌≤◌, ◌<◌}
use native.Mathlib.Nat.{lt_of_lt_of_le}
use native.Mathlib.Omega.{arith}
use mathlib.Core.Path.{◌≡◌, refl, sym, ap, ap₂, ◌∙◌, subst}
use mathlib.Core.Bool.{Bool, true, false, ◌&&◌, ◌||◌}
use mathlib.Core.List.{List, [], ◌∷◌, ◌++◌, map}
use lib.ListN.{length, get_or, drop, replicate, drop_of_length-le}
use lib.Seq.{drop-cons}
use lib.Dec.{leb, ltb, eqb}
use borrow.Author.Tests.{ltb-true, leb-true, le-leb, eqb-true}
use Rattle.wide.specs.Bits.{flag_of}
use Rattle.wide.proofs.Choices.{choose, and_parts, and_join}
use Rattle.wide.proofs.Forms.{flag_back}
use Rattle.channel.specs.declared.HardwareTimer.{HardwareTimer}
use Rattle.channel.specs.Channel.{TimerFits}
use Rattle.channel.proofs.Sound.{GoodTimer}
use Rattle.clock.specs.declared.Clock.{Clock}
use Rattle.clock.specs.Clock.{rate_of, nanos_per_second, poll_limit}
use Rattle.clock.specs.Sound.{ClockFits, sound_rate}
use Rattle.clock.proofs.Rate.{of_three, rate-fits}
use Rattle.clock.proofs.Soundness.{GoodClock}
use Rattle.controller.specs.declared.IrqController.{IrqController}
use Rattle.controller.specs.Controller.{ControllerFits}
use Rattle.std.proofs.Common.{None, Some}
use Rattle.board.specs.Fields.{Latch}
use Rattle.board.specs.declared.CountLatch.{CountLatch}
use Rattle.board.specs.declared.Latches.{Latches}
use Rattle.board.specs.declared.Board.{Board}
use Rattle.board.specs.Loops.{All}
use Rattle.board.specs.Board.{held_of, held_value, LatchFits, CountFits, LatchesFit, BoardFits}
use Rattle.board.proofs.Loops.{by_four}
use Rattle.board.proofs.Good.{GoodParts}
use Rattle.image.specs.Image.{
  number,
  flag,
  Field,
  widths_of,
  channel_field,
  clock_field,
  latches_field,
  controller_field,
  layout,
  rate_field,
  timer_members,
  clock_members,
  latch_members,
  count_members,
  latches_members,
  controller_members,
  members_of,
  flags_hold,
  flag_is,
  timer_from,
  clock_from,
  latch_from,
  latches_from,
  empties_hold0,
  controller_from,
  board_from,
}
use Rattle.format.proofs.Members.{ended, ◌▸◌, each_length, each_at, Below}
use Rattle.parking.proofs.Stored.{flag_at, FieldFit, FieldsFit}

-- ---- flags

flag_most : (v : Bool) → flag_of v ≤ 1
flag_most true = omega arith
flag_most false = omega arith

flag_fits : (v : Bool) → flag_of v < 256
flag_fits v = omega (arith, flag_most v)

flag_holds : (v : Bool) → leb (flag_of v) 1 ≡ true
flag_holds v = le-leb (flag_of v) 1 (flag_most v)

-- a number that is a flag, and back
flag_same : (n : ℕ) → n ≤ 1 → flag_of (flag_is n) ≡ n
flag_same zero h = refl
flag_same (suc zero) h = refl
flag_same (suc (suc n)) h = absurd (omega (arith, h))

-- ---- latches

latch_back : (l : Latch) → latch_from (flag_of (held_of l)) (held_value l) ≡ l
latch_back None = refl
latch_back (Some v) = refl

-- a held flag and a value that an empty latch may have
latch-members : (held value : ℕ) → held ≤ 1 → (flag_is held || eqb value 0) ≡ true →
    latch_members (latch_from held value) ≡ held ∷ value ∷ []
latch-members zero value h e = ap (λ (v : ℕ). 0 ∷ v ∷ []) (sym (eqb-true value 0 e))
latch-members (suc zero) value h e = refl
latch-members (suc (suc n)) value h e = absurd (omega (arith, h))

latch_fits : (held value : ℕ) → value < 2 ^ 32 → LatchFits (latch_from held value)
latch_fits held value h = choose LatchFits (flag_is held) {x = Some value} {y = None} (λ _. h) (λ _. omega arith)

latch_empty : (l : Latch) → (flag_is (flag_of (held_of l)) || eqb (held_value l) 0) ≡ true
latch_empty None = refl
latch_empty (Some v) = refl

-- ---- lists by their elements

-- the n elements from index k on
abbrev elements : {A : Type 0} → A → List A → ℕ → ℕ → List A
elements d xs k zero = []
elements d xs k (suc n) = get_or xs k d ∷ elements d xs (suc k) n

elements_are : {A : Type 0} (d : A) (xs : List A) (k n : ℕ) → k + n ≡ length xs → elements d xs k n ≡ drop k xs
elements_are d xs k zero e = sym (drop_of_length-le xs {i = k} (omega (arith, e)))
elements_are {A} d xs k (suc n) e =
    ap (λ (l : List A). get_or xs k d ∷ l) (elements_are d xs (suc k) n (omega (arith, e)))
    ∙ sym (drop-cons xs k d (omega (arith, e)))

-- ---- members that fit a field are those of the part that they say

module _ (f : Field) (ms : List ℕ) (fit : FieldFit f ms) where
  flag-kept : (k : ℕ) → get_or f.members k (number 0) ≡ flag → flag_of (flag_is (get_or ms k 0)) ≡ get_or ms k 0
  flag-kept k e = flag_same (get_or ms k 0) (flag_at f.members ms fit.flags k e)

  all-kept : elements 0 ms 0 (length (widths_of f.members)) ≡ ms
  all-kept =
      let n = each_length Below (widths_of f.members) ms fit.members in
      elements_are 0 ms 0 (length (widths_of f.members)) (omega (arith, n))

  word : (k : ℕ) → ltb k (length (widths_of f.members)) ≡ true → get_or ms k 0 < 256 ^ get_or (widths_of f.members) k 0
  word k h =
      each_at Below 0 0 (widths_of f.members) ms fit.members k (ltb-true k (length (widths_of f.members)) h)

timer-members : (ms : List ℕ) → FieldFit channel_field ms → timer_members (timer_from ms) ≡ ms
timer-members ms fit =
    rw (flag-kept channel_field ms fit 6 refl, flag-kept channel_field ms fit 7 refl) (all-kept channel_field ms fit)

clock-members : (rate : ℕ) (ms : List ℕ) → FieldFit clock_field ms →
    clock_members (get_or ms 0 0) (clock_from rate ms) ≡ ms
clock-members rate ms fit =
    rw (
      flag-kept clock_field ms fit 4 refl,
      flag-kept clock_field ms fit 9 refl,
      flag-kept clock_field ms fit 10 refl,
    )
    (all-kept clock_field ms fit)

-- six clauses, taken apart
six : (a b c d e f : Bool) → (a && (b && (c && (d && (e && (f && true)))))) ≡ true →
    (a ≡ true) × ((b ≡ true) × ((c ≡ true) × ((d ≡ true) × ((e ≡ true) × (f ≡ true)))))
six a b c d e f t =
    let t₁ = and_parts a (b && (c && (d && (e && (f && true))))) t in
    let t₂ = and_parts b (c && (d && (e && (f && true)))) t₁.1 in
    let t₃ = and_parts c (d && (e && (f && true))) t₂.1 in
    let t₄ = and_parts d (e && (f && true)) t₃.1 in
    let t₅ = and_parts e (f && true) t₄.1 in
    (t₁.0, (t₂.0, (t₃.0, (t₄.0, (t₅.0, (and_parts f true t₅.1).0)))))

latches-members : (ms : List ℕ) → FieldFit latches_field ms → empties_hold0 ms ≡ true →
    latches_members (latches_from ms) ≡ ms
latches-members ms fit e =
    let t = six _ _ _ _ _ _ (subst (λ (x : List ℕ). empties_hold0 x ≡ true) (sym (all-kept latches_field ms fit)) e) in
    ap₂ ◌++◌
    (ap₂ ◌++◌ (at 0 1 refl t.0)
    (ap₂ ◌++◌ (at 2 3 refl t.1.0)
    (ap₂ ◌++◌ (at 4 5 refl t.1.1.0) (ap (λ (l : List ℕ). l ++ []) (at 6 7 refl t.1.1.1.0)))))
    (ap₂ ◌++◌ (at 8 9 refl t.1.1.1.1.0) (at 10 11 refl t.1.1.1.1.1))
    ∙ all-kept latches_field ms fit
  where
    at : (k n : ℕ) → get_or latches_field.members k (number 0) ≡ flag →
        (flag_is (get_or ms k 0) || eqb (get_or ms n 0) 0) ≡ true →
        latch_members (latch_from (get_or ms k 0) (get_or ms n 0)) ≡ get_or ms k 0 ∷ get_or ms n 0 ∷ []
    at k n f h =
        latch-members (get_or ms k 0) (get_or ms n 0) (flag_at latches_field.members ms fit.flags k f) h

-- ---- and that part is within its widths

timer_fits : (ms : List ℕ) → FieldFit channel_field ms → TimerFits (timer_from ms)
timer_fits ms fit =
    record {
      counter = word channel_field ms fit 1 refl;
      compare = word channel_field ms fit 2 refl;
      reload = word channel_field ms fit 3 refl;
      prescaler = word channel_field ms fit 4 refl;
    }

clock_fits : (rate : ℕ) (ms : List ℕ) → FieldFit clock_field ms → ClockFits (clock_from rate ms)
clock_fits rate ms fit =
    record {
      seconds = word clock_field ms fit 2 refl;
      offset = word clock_field ms fit 5 refl;
      alarm = word clock_field ms fit 8 refl;
      shadow = word clock_field ms fit 11 refl;
      alarm_shadow = word clock_field ms fit 14 refl;
      host = word clock_field ms fit 16 refl;
    }

latches_fits : (ms : List ℕ) → FieldFit latches_field ms → LatchesFit (latches_from ms)
latches_fits ms fit =
    record {
      four = refl;
      counts = (at 0 refl refl, (at 2 refl refl, (at 4 refl refl, (at 6 refl refl, tt))));
      low = at 8 refl refl;
      high = at 10 refl refl;
    }
  where
    at : (k : ℕ) → ltb (suc k) 12 ≡ true → get_or (widths_of latches_field.members) (suc k) 0 ≡ 4 →
        LatchFits (latch_from (get_or ms k 0) (get_or ms (suc k) 0))
    at k h e = latch_fits (get_or ms k 0) (get_or ms (suc k) 0) (rw e at (word latches_field ms fit (suc k) h))

controller_fits : (ms : List ℕ) → FieldFit controller_field ms → ControllerFits (controller_from ms)
controller_fits ms fit =
    record {
      pending = word controller_field ms fit 0 refl;
      enable = word controller_field ms fit 1 refl;
      levels = word controller_field ms fit 2 refl;
    }

-- ---- and so of the whole layout

module _ (rate : ℕ) (mss : List (List ℕ)) (fit : FieldsFit layout mss) where
  abbrev part : ℕ → List ℕ
  part k = get_or mss k []

  at : (k : ℕ) → ltb k 7 ≡ true → FieldFit (get_or layout k channel_field) (part k)
  at k h = each_at FieldFit channel_field [] layout mss fit k (ltb-true k 7 h)

  pub board-members : empties_hold0 (part 5) ≡ true → members_of (board_from rate mss) ≡ mss
  unfolding board_from
  board-members e =
      ap₂ ◌∷◌ (timer-members (part 0) (at 0 refl))
      (ap₂ ◌∷◌ (timer-members (part 1) (at 1 refl))
      (ap₂ ◌∷◌ (timer-members (part 2) (at 2 refl))
      (ap₂ ◌∷◌ (timer-members (part 3) (at 3 refl))
      (ap₂ ◌∷◌ (clock-members rate (part 4) (at 4 refl))
      (ap₂ ◌∷◌ (latches-members (part 5) (at 5 refl) e)
      (ap (λ (ms : List ℕ). ms ∷ []) (all-kept controller_field (part 6) (at 6 refl))))))))
      ∙ elements_are [] mss 0 7 (omega (arith, each_length FieldFit layout mss fit))

  pub from-fits : BoardFits (board_from rate mss)
  unfolding board_from
  from-fits =
      let a = timer_fits (part 0) (at 0 refl) in
      let b = timer_fits (part 1) (at 1 refl) in
      let c = timer_fits (part 2) (at 2 refl) in
      let d = timer_fits (part 3) (at 3 refl) in
      record {
        four = refl;
        timers = (a, (b, (c, (d, tt))));
        clock = clock_fits rate (part 4) (at 4 refl);
        latches = latches_fits (part 5) (at 5 refl);
        controller = controller_fits (part 6) (at 6 refl);
      }

-- ---- the members of a sound board fit the layout

-- a smaller limit
below : {v : ℕ} (a b : ℕ) → v < a → leb a b ≡ true → v < b
below {v} a b h e = omega (arith, h, leb-true a b e)

timer_fit : (h : HardwareTimer) → GoodTimer h → FieldFit channel_field (timer_members h)
unfolding flags_hold
timer_fit h g =
    let f = g.fits in
    let phase : h.phase < 2 ^ 32 = omega (arith, g.phase, f.prescaler) in
    record {
      header = refl;
      members =
          below 16 256 g.control refl ▸ f.counter ▸ f.compare ▸ f.reload ▸ f.prescaler ▸ phase
          ▸ flag_fits h.pending ▸ flag_fits h.armed ▸ ended;
      flags = simp flag_holds;
    }

-- the channels ahead of other fields
channels_fit : (ts : List HardwareTimer) → All GoodTimer ts → (fs : List Field) (mss : List (List ℕ)) →
    FieldsFit fs mss → FieldsFit (replicate (length ts) channel_field ++ fs) (map timer_members ts ++ mss)
channels_fit [] g fs mss fit = fit
channels_fit (t ∷ ts) g fs mss fit = timer_fit t g.0 ▸ channels_fit ts g.1 fs mss fit

-- poll's limit is no more than the rate
limit_fits : (rate : ℕ) → rate ≤ 2 ^ 32 → poll_limit rate ≤ 2 ^ 32
limit_fits rate h = omega arith

clock_fit : (rate enable : ℕ) (k : Clock) → sound_rate rate ≡ true → enable < 16 → GoodClock rate k →
    FieldFit clock_field (clock_members enable k)
unfolding flags_hold
clock_fit rate enable k r e g =
    let p = g.parts in
    let fits = rate-fits rate r in
    record {
      header = refl;
      members =
          below 16 256 e refl ▸ below 8 256 p.control refl ▸ p.seconds
          ▸ lt_of_lt_of_le p.subsecond fits
          ▸ flag_fits k.offset.negative ▸ p.offset.word ▸ below nanos_per_second (2 ^ 32) p.offset.small refl
          ▸ below 2 256 p.alarm.enable refl ▸ p.alarm.word
          ▸ flag_fits k.alarm.pending ▸ flag_fits k.alarm.armed
          ▸ p.shadow.word ▸ below 255 256 p.shadow.mask refl
          ▸ lt_of_lt_of_le p.poll (limit_fits rate fits)
          ▸ p.alarm_shadow.word ▸ below 255 256 p.alarm_shadow.mask refl
          ▸ p.host.word ▸ below nanos_per_second (2 ^ 32) p.host.small refl ▸ ended;
      flags = simp flag_holds;
    }

latches_fit : (ls : Latches) → LatchesFit ls → FieldFit latches_field (latches_members ls)
unfolding flags_hold
latches_fit ls f =
    by_four
    (λ cs. All CountFits cs →
    FieldFit latches_field (count_members cs ++ (latch_members ls.low ++ latch_members ls.high)))
    (λ a b c d w. record {
      header = refl;
      members =
          held a ▸ w.0 ▸ held b ▸ w.1.0 ▸ held c ▸ w.1.1.0 ▸ held d ▸ w.1.1.1.0
          ▸ flag_fits (held_of ls.low) ▸ f.low ▸ flag_fits (held_of ls.high) ▸ f.high ▸ ended;
      flags = simp flag_holds;
    })
    ls.counts f.four f.counts
  where
    held : (c : CountLatch) → flag_of (held_of c.high) < 256
    held c = flag_fits (held_of c.high)

controller_fit : (q : IrqController) → ControllerFits q → FieldFit controller_field (controller_members q)
unfolding flags_hold
controller_fit q f =
    record {
      header = refl;
      members = f.pending ▸ f.enable ▸ f.levels ▸ ended;
      flags = refl;
    }

-- a rate, the member of the new form's first field
pub rate_fit : (rate : ℕ) → sound_rate rate ≡ true → FieldFit rate_field (rate ∷ [])
unfolding flags_hold
rate_fit rate r =
    record {
      header = refl;
      members = of_three (λ (n : ℕ). n < 2 ^ 32) rate r (omega arith) (omega arith) (omega arith) ▸ ended;
      flags = refl;
    }

pub members_fit : {rate : ℕ} (b : Board) → GoodParts rate b → FieldsFit layout (members_of b)
members_fit {rate} b p =
    let others = clock_field ∷ latches_field ∷ controller_field ∷ [] in
    subst (λ (n : ℕ). FieldsFit (replicate n channel_field ++ others) (members_of b)) p.four
    (channels_fit b.timers p.timers _ _
    (clock_fit rate b.timer_enable b.clock p.known p.enable p.clock
    ▸ latches_fit b.latches p.latches
    ▸ controller_fit b.controller p.controller
    ▸ ended))

-- ---- and say that board

timer_back : (h : HardwareTimer) → timer_from (timer_members h) ≡ h
timer_back h = rw (flag_back h.pending, flag_back h.armed)

clock_back : (enable : ℕ) (k : Clock) → clock_from (rate_of k) (clock_members enable k) ≡ k
clock_back enable k =
    rw (flag_back k.offset.negative, flag_back k.alarm.pending, flag_back k.alarm.armed)

latches_back : (ls : Latches) → length ls.counts ≡ 4 → latches_from (latches_members ls) ≡ ls
latches_back ls =
    by_four
    (λ cs.
    latches_from (latches_members (record { counts = cs; low = ls.low; high = ls.high }))
    ≡ record { counts = cs; low = ls.low; high = ls.high })
    (λ a b c d.
    rw (
      latch_back a.high,
      latch_back b.high,
      latch_back c.high,
      latch_back d.high,
      latch_back ls.low,
      latch_back ls.high,
    ))
    ls.counts

pub board_back : (b : Board) → BoardFits b → board_from (rate_of b.clock) (members_of b) ≡ b
unfolding board_from
board_back b f =
    by_four
    (λ ts.
    board_from (rate_of b.clock) (members_of (made ts b.clock b.latches)) ≡ made ts b.clock b.latches)
    (λ t u v w.
    ap₂ (λ (ts : List HardwareTimer) (k : Clock). made ts k (latches_from (latches_members b.latches)))
    (ap₂ ◌∷◌ (timer_back t)
    (ap₂ ◌∷◌ (timer_back u) (ap₂ ◌∷◌ (timer_back v) (ap (λ (h : HardwareTimer). h ∷ []) (timer_back w)))))
    (clock_back b.timer_enable b.clock)
    ∙ ap (made (t ∷ u ∷ v ∷ w ∷ []) b.clock) (latches_back b.latches f.latches.four))
    b.timers f.four
  where
    made : List HardwareTimer → Clock → Latches → Board
    made ts k ls =
        record {
          timers = ts;
          timer_enable = b.timer_enable;
          clock = k;
          latches = ls;
          controller = b.controller;
        }

-- an empty latch of a board holds 0
counts_empty : (cs : List CountLatch) (ms : List ℕ) → empties_hold0 ms ≡ true →
    empties_hold0 (count_members cs ++ ms) ≡ true
counts_empty [] ms e = e
counts_empty (c ∷ cs) ms e = and_join _ _ (latch_empty c.high) (counts_empty cs ms e)

latches_empty : (ls : Latches) → empties_hold0 (latches_members ls) ≡ true
latches_empty ls =
    counts_empty ls.counts (latch_members ls.low ++ latch_members ls.high)
    (and_join _ _ (latch_empty ls.low) (and_join _ true (latch_empty ls.high) refl))

-- the latches' members stand behind those of four channels and of the clock
sixth : (ts : List HardwareTimer) → length ts ≡ 4 → (x y : List ℕ) (zs : List (List ℕ)) →
    get_or (map timer_members ts ++ (x ∷ y ∷ zs)) 5 [] ≡ y
sixth ts four x y zs =
    by_four (λ us. get_or (map timer_members us ++ (x ∷ y ∷ zs)) 5 [] ≡ y) (λ _ _ _ _. refl) ts four

pub board_empties : (b : Board) → BoardFits b → empties_hold0 (get_or (members_of b) 5 []) ≡ true
board_empties b f = rw (sixth b.timers f.four) (latches_empty b.latches)
