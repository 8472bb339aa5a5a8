-- The promise of the deadline. For a sound board with its line low and its clock not running from host time, it states
-- the line and source 3 after any list of advances and host-time calls, by the deadline that the board gave. And the
-- promise of a skip.
use Rattle.std.specs.Prelude.{ℕ, ◌+◌, ◌≤◌, min, ◌≡◌, ◌↔◌, ◌⊎◌, Bool, true, false, cond, List, [], ◌∷◌, eqb}
use Rattle.std.proofs.Math.Option.{none, some}
use Rattle.wide.specs.Bits.{bit}
use Rattle.wide.specs.Number.{largest}
use Rattle.clock.specs.Clock.{from_host}
use Rattle.board.specs.declared.Board.{Board}
use Rattle.board.specs.Board.{line, exact_deadline, sound}
use Rattle.board.specs.declared.calls.Call.{Call}
use Rattle.board.specs.declared.calls.Call.TheVariants.{
  HostTime,
  Read,
  Write,
  Advance,
  Deadline,
  Skip,
  Source,
  ControllerRead,
  ControllerWrite,
  Output,
}
use Rattle.board.specs.Loops.{All}
use Rattle.board.specs.Calls.{DirectAnswer, answer_of, member_at, flag_at}

-- a call of the promise's lists: an advance, or a host-time call
abbrev pub PassesTime : Call → Type 0
PassesTime (HostTime nanoseconds seconds) = Unit {0}
PassesTime (Read address) = ⊥
PassesTime (Write byte address) = ⊥
PassesTime (Advance c) = Unit {0}
PassesTime Deadline = ⊥
PassesTime Skip = ⊥
PassesTime (Source number level) = ⊥
PassesTime (ControllerRead address) = ⊥
PassesTime (ControllerWrite byte address) = ⊥
PassesTime Output = ⊥

-- the board that a call returns
unfoldable pub after : Call → Board → Board
after call b = (answer_of call b).board

-- the cycles of an advance; another call has none
abbrev pub cycles_of : Call → ℕ
cycles_of (HostTime nanoseconds seconds) = 0
cycles_of (Read address) = 0
cycles_of (Write byte address) = 0
cycles_of (Advance c) = c.0
cycles_of Deadline = 0
cycles_of Skip = 0
cycles_of (Source number level) = 0
cycles_of (ControllerRead address) = 0
cycles_of (ControllerWrite byte address) = 0
cycles_of Output = 0

-- the cycles that a call adds to T: those of an accepted advance
unfoldable pub adds : Call → Board → ℕ
adds call b = cond (eqb (answer_of call b).refusal 0) (cycles_of call) 0

-- 'The first gets that board, each later one the board that the call before returned.'
unfoldable pub after_all : List Call → Board → Board
after_all [] b = b
after_all (call ∷ calls) b = after_all calls (after call b)

-- 'T be the cycles of the accepted advances added up'
unfoldable pub cycles_passed : List Call → Board → ℕ
cycles_passed [] b = 0
cycles_passed (call ∷ calls) b = adds call b + cycles_passed calls (after call b)

-- 'source 3's pending bit'
abbrev pub source3 : Board → Bool
source3 b = bit 3 b.controller.pending

-- with a deadline d given, b the board at the start, t the T of the list and `end` the board at its end: 'the line is
-- high exactly when T is at least D, and source 3's pending bit is set exactly when it was set at the start or T is at
-- least D'
pub record Rises (b : Board) (d t : ℕ) (end : Board) : Type 0 where
  pub line : (line end ≡ true) ↔ (d ≤ t)
  pub source : (source3 end ≡ true) ↔ ((source3 b ≡ true) ⊎ (d ≤ t))

-- 'Where no deadline is given, after every such list the line is low and that bit is as it was at the start.'
pub record StaysLow (b end : Board) : Type 0 where
  pub line : line end ≡ false
  pub source : source3 end ≡ source3 b

-- by the members of the deadline's answer: present, D and the 64-bit deadline, 'the smaller of D and 2^64 − 1'
abbrev pub PromiseAfter : Bool → ℕ → ℕ → Board → ℕ → Board → Type 0
PromiseAfter true d word b t end = Rises b d t end × (word ≡ min d largest)
PromiseAfter false d word b t end = StaysLow b end

-- 'any sound board with its line low and its clock not running from host time .. any list of advances and host-time
-- calls, refused ones included'
abbrev pub Promise : Board → Bool → ℕ → ℕ → Type 0
Promise b present d word =
    sound b ≡ true → line b ≡ false → from_host b.clock.control ≡ false →
    (calls : List Call) → All PassesTime calls →
    PromiseAfter present d word b (cycles_passed calls b) (after_all calls b)

-- the promise of the deadline, by an answer whose members are 'present 1, D 16, 64-bit deadline 8'
abbrev pub DeadlinePromise : Board → DirectAnswer → Type 0
DeadlinePromise b r = Promise b (flag_at 0 r) (member_at 1 r) (member_at 2 r)

-- ---- skip

-- what an accepted skip does, whatever the clock runs from: b is the board before it, r the answer, whose members are
-- 'passed 8, line 1'
pub record Skipped (b : Board) (r : DirectAnswer) : Type 0 where
  -- S-2: 'every accepted skip with a D ends with the line high'
  pub reaches : (d : ℕ) → exact_deadline b ≡ some d → (flag_at 1 r ≡ true) × (line r.board ≡ true)
  -- and where the line was low it passes D
  pub passes : (d : ℕ) → exact_deadline b ≡ some d → line b ≡ false → member_at 0 r ≡ d
  -- 'with the line high or no D, it makes no advance, changes nothing and passes 0'
  pub stays : (line b ≡ true) ⊎ (exact_deadline b ≡ none) →
      (member_at 0 r ≡ 0) × (r.board ≡ b) × (flag_at 1 r ≡ line b)

-- the promise of a skip
abbrev pub SkipPromise : Board → DirectAnswer → Type 0
SkipPromise b r = r.refusal ≡ 0 → Skipped b r
