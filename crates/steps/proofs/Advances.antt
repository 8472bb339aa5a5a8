-- The loop that advances a board's channels where they lie, the board after it, and the counts that it writes. Assumes
-- nothing.
use Prim.Native.Nat.{ℕ, ◌+◌, ◌*◌, ◌≤◌, ◌<◌}
use native.Mathlib.Omega.{arith}
use mathlib.Core.Path.{◌≡◌, refl, sym, ap, ◌∙◌, subst}
use mathlib.Core.Bool.{Bool, true, false}
use mathlib.Core.List.{List, [], ◌∷◌}
use lib.ListN.{length, get_or, set}
use lib.Seq.{sets, length-sets, set-get_or}
use Rattle.wide.specs.Bits.{bit}
use Rattle.wide.specs.Fields.{be}
use Rattle.channel.specs.declared.HardwareTimer.{HardwareTimer}
use Rattle.channel.specs.Channel.{fresh_timer}
use Rattle.channel.specs.Prescaler.{runs, advanced}
use Rattle.channel.specs.Matches.{matches_of}
use Rattle.clock.specs.declared.Clock.{Clock}
use Rattle.clock.specs.Clock.{rate_of, advance_clock}
use Rattle.clock.specs.Sound.{Timed}
use Rattle.board.specs.declared.Board.{Board}
use Rattle.board.specs.Fields.{with_timers, with_clock, with_channel}
use Rattle.board.specs.Calls.{moved_board}
use Rattle.board.specs.Channels.{all_sound, advanced_all, matches_all}
use Rattle.channel.proofs.Law.{advanced_still}
use Rattle.channel.proofs.Counting.{still-matches}
use Rattle.board.proofs.Loops.{map_to, next_is, map-goes, map-ends, given_to, given-length, given-next, given-starts}
use Rattle.board.proofs.Loops.{given-goes, given-ends}
use Rattle.board.proofs.Phases.{phase_next}
use Rattle.format.specs.CodeAnswers.{wides}
use Rattle.steps.specs.CodeSteps.{counts_at, begun_put, count_put}
use Rattle.steps.proofs.Records.{counts_put, counts_length, counts_goes, counts_zero, counts_over}

-- the channels below i are advanced
pub record Advancing (enable c i : ℕ) (b₀ b : Board) : Type 0 where
  pub below : i ≤ 4
  pub four : length b₀.timers ≡ 4
  pub sound : all_sound b₀.timers ≡ true
  pub now : b ≡ with_timers (map_to (λ k h. advanced (bit k enable) c h) i 0 b₀.timers) b₀

pub begins : (enable c : ℕ) (b : Board) → length b.timers ≡ 4 → all_sound b.timers ≡ true →
    Advancing enable c 0 b b
unfolding map_to
begins enable c b n s = record { below = omega arith; four = n; sound = s; now = refl }

module _ (enable c i : ℕ) (b₀ b : Board) (a : Advancing enable c i b₀ b) where
  -- the clock is as it was
  pub still-timed : Timed (rate_of b₀.clock) b₀.clock → Timed (rate_of b.clock) b.clock
  still-timed t = rw a.now t

  timers-now : b.timers ≡ map_to (λ k h. advanced (bit k enable) c h) i 0 b₀.timers
  timers-now = ap (λ (x : Board). x.timers) a.now

  pub next-phase : i < 4 → (get_or b.timers i fresh_timer).phase ≤ (get_or b.timers i fresh_timer).prescaler
  next-phase h =
      phase_next (λ k t. advanced (bit k enable) c t) b₀.timers b.timers i (omega (arith, h, a.four)) a.sound
      timers-now

  -- one channel more: m is the channel advanced
  pub advances : i < 4 → (v : Bool) → v ≡ bit i enable → (m : HardwareTimer) →
      m ≡ advanced v c (get_or b.timers i fresh_timer) → Advancing enable c (i + 1) b₀ (with_channel i m b)
  advances h v e m q =
      record {
        below = omega (arith, h);
        four = a.four;
        sound = a.sound;
        now =
            ap (λ (ts : List HardwareTimer). with_timers ts b)
            (map-goes (λ k t. advanced (bit k enable) c t) fresh_timer i b₀.timers b.timers m
            (omega (arith, h, a.four)) timers-now (rw e at q))
            ∙ ap (λ (x : Board). with_timers (map_to (λ k t. advanced (bit k enable) c t) (i + 1) 0 b₀.timers) x)
            a.now;
      }

  -- one channel more that does not run
  pub passed_over : i < 4 → (v : Bool) → v ≡ bit i enable → runs v (get_or b.timers i fresh_timer) ≡ false →
      Advancing enable c (i + 1) b₀ b
  passed_over h v e n =
      let m = get_or b.timers i fresh_timer in
      let same : with_channel i m b ≡ b =
      ap (λ (ts : List HardwareTimer). with_timers ts b) (set-get_or b.timers i fresh_timer) in
      subst (Advancing enable c (i + 1) b₀) same (advances h v e m (sym (advanced_still v c m n)))

  -- after the last channel, and with the clock advanced
  pub all-advanced : 4 ≤ i → enable ≡ b₀.timer_enable → (k : Clock) →
      k ≡ advance_clock (rate_of b.clock) c b.clock → with_clock k b ≡ moved_board c b₀
  unfolding moved_board
  all-advanced h e k q =
      let n : i ≡ 4 = omega (arith, h, a.below) in
      let s : k ≡ advance_clock (rate_of b₀.clock) c b₀.clock =
      q ∙ ap (λ (x : Board). advance_clock (rate_of x.clock) c x.clock) a.now in
      let t : b.timers ≡ advanced_all enable c b₀.timers =
      timers-now ∙ rw n (map-ends (λ k t. advanced (bit k enable) c t) 4 0 b₀.timers a.four) in
      ap (λ (x : Clock). with_clock x b) s
      ∙ ap (λ (x : Board). with_clock (advance_clock (rate_of b₀.clock) c b₀.clock) x)
      (a.now ∙ ap (λ (ts : List HardwareTimer). with_timers ts b₀) (sym timers-now ∙ t ∙ rw e refl))

-- ---- the counts in the buffer

-- the counts of the channels below i, and 0 for the others
abbrev pub counts_to : (enable c i : ℕ) → Board → List ℕ
counts_to enable c i b = given_to (λ k h. matches_of (bit k enable) c h) 0 i 0 b.timers

-- the buffer has them, in the record of a pass from index at on, if it has counts
abbrev pub Counted : (enable c i : ℕ) → Bool → ℕ → Board → List ℕ → List ℕ → Type 0
Counted enable c i v at b₀ buf₀ buf = buf ≡ counts_put v at (counts_to enable c i b₀) buf₀

abbrev pub no_counts : List ℕ
no_counts = 0 ∷ 0 ∷ 0 ∷ 0 ∷ []

-- buf₀ is the buffer that the pass begins with
pub begun_length : (v : Bool) (c at : ℕ) (buf buf₀ : List ℕ) → buf₀ ≡ begun_put v c at buf → length buf₀ ≡ length buf
unfolding begun_put
begun_length true c at buf buf₀ e = ap length e ∙ length-sets buf (counts_at at) (wides no_counts)
begun_length false c at buf buf₀ e = ap length e ∙ length-sets buf (at + 3) (be 8 c)

pub counts_begin : (enable c : ℕ) (v : Bool) (at : ℕ) (b : Board) → length b.timers ≡ 4 → (buf buf₀ : List ℕ) →
    buf₀ ≡ begun_put v c at buf → Counted enable c 0 v at b buf₀ buf₀
unfolding begun_put counts_put
counts_begin enable c true at b n buf buf₀ e =
    rw (← given-starts (λ k h. matches_of (bit k enable) c h) 0 0 b.timers n, e)
    (sym (counts_over true at buf no_counts no_counts refl))
counts_begin enable c false at b n buf buf₀ e = refl

module _ (enable c i : ℕ) (v : Bool) (at : ℕ) (b₀ b : Board) (a : Advancing enable c i b₀ b) (buf₀ buf : List ℕ)
    (k : Counted enable c i v at b₀ buf₀ buf) where
  abbrev counted : ℕ → HardwareTimer → ℕ
  counted j h = matches_of (bit j enable) c h

  below-four : i < 4 → i < length (counts_to enable c i b₀)
  below-four h = omega (arith, h, given-length counted 0 i 0 b₀.timers, a.four)

  -- the next count is 0 so far
  pub next-zero : i < 4 → v ≡ true → sets buf (counts_at at + 16 * i) (be 16 0) ≡ buf
  next-zero h e =
      rw k
      (counts_zero v at buf₀ (counts_to enable c i b₀) i (below-four h) (given-next counted 0 i 0 b₀.timers) e)

  -- the next channel has not been advanced
  same_next : get_or b.timers i fresh_timer ≡ get_or b₀.timers i fresh_timer
  same_next =
      ap (λ (ts : List HardwareTimer). get_or ts i fresh_timer) (timers-now enable c i b₀ b a)
      ∙ next_is (λ j h. advanced (bit j enable) c h) fresh_timer i 0 b₀.timers

  -- the next channel's count, where its bit in timer enable is s
  count_next : i < 4 → (s : Bool) → s ≡ bit i enable → (n : ℕ) → n ≡ matches_of s c (get_or b.timers i fresh_timer) →
      set (counts_to enable c i b₀) i n ≡ counts_to enable c (i + 1) b₀
  count_next h s e n q =
      given-goes counted 0 fresh_timer i b₀.timers (counts_to enable c i b₀) n (omega (arith, h, a.four)) refl
      (q ∙ ap (λ (s : Bool). matches_of s c (get_or b.timers i fresh_timer)) e ∙ ap (counted i) same_next)

  -- one channel more: n is its count
  pub counts-next : i < 4 → (s : Bool) → s ≡ bit i enable → (n : ℕ) →
      n ≡ matches_of s c (get_or b.timers i fresh_timer) → (x buf' : List ℕ) → x ≡ count_put v at i n buf → buf' ≡ x →
      Counted enable c (i + 1) v at b₀ buf₀ buf'
  counts-next h s e n q x buf' f g =
      g ∙ f ∙ ap (count_put v at i n) k
      ∙ counts_goes v at buf₀ (counts_to enable c i b₀) i n (below-four h)
      ∙ ap (λ (ns : List ℕ). counts_put v at ns buf₀) (count_next h s e n q)

  -- one channel more that does not run: its count is 0
  pub counts-passed : i < 4 → (s : Bool) → s ≡ bit i enable → runs s (get_or b.timers i fresh_timer) ≡ false →
      Counted enable c (i + 1) v at b₀ buf₀ buf
  counts-passed h s e r =
      let z = still-matches s c (get_or b.timers i fresh_timer) r in
      let same : set (counts_to enable c i b₀) i 0 ≡ counts_to enable c i b₀ =
      ap (set (counts_to enable c i b₀) i) (sym (given-next counted 0 i 0 b₀.timers))
      ∙ set-get_or (counts_to enable c i b₀) i 0 in
      k ∙ ap (λ (ns : List ℕ). counts_put v at ns buf₀) (sym same ∙ count_next h s e 0 (sym z))

  -- the buffer keeps its length
  pub counts_same : length buf ≡ length buf₀
  counts_same = ap length k ∙ counts_length v at (counts_to enable c i b₀) buf₀

  -- after the last channel
  pub counts_end : 4 ≤ i → buf ≡ counts_put v at (matches_all enable c b₀.timers) buf₀
  counts_end h =
      let n : i ≡ 4 = omega (arith, h, a.below) in
      let all : counts_to enable c i b₀ ≡ matches_all enable c b₀.timers =
      rw n (given-ends counted 0 4 0 b₀.timers a.four) in
      k ∙ ap (λ (ns : List ℕ). counts_put v at ns buf₀) all
