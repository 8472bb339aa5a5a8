-- What a direct call answers, by what the code computes of it. Assumes nothing.
use Prim.Native.Nat.{ℕ, suc}
use native.Mathlib.Omega.{arith}
use mathlib.Core.Path.{◌≡◌, refl, sym, ◌∙◌}
use mathlib.Core.Bool.{Bool, true, false, cond, false≢true}
use mathlib.Core.Option.{Option, none, some}
use mathlib.Core.List.{List, [], ◌∷◌}
use lib.Dec.{ltb, eqb}
use borrow.Author.Tests.{eqb-true}
use Rattle.std.specs.Prelude.{map, Option as Given, Some, None, Result, Ok, Err}
use Rattle.std.specs.Result.{result_and}
use Rattle.wide.specs.Bits.{bit, flag_of}
use Rattle.wide.specs.Number.{value_of, wide_of, largest}
use Rattle.wide.proofs.Choices.{either}
use Rattle.wide.proofs.Forms.{wide_value, flag_back}
use Rattle.channel.specs.declared.Cycles.{Cycles}
use Rattle.channel.specs.declared.HardwareTimer.{HardwareTimer}
use Rattle.board.specs.declared.Board.{Board}
use Rattle.board.specs.declared.refusal.Refusal.{Refusal}
use Rattle.board.specs.declared.refusal.Refusal.TheVariants.{
  NotSound,
  HeaderCut,
  TagUnknown,
  LengthWrong,
  ValueCut,
  AddressTooLarge,
  NanosecondsTooLarge,
  SourceTooLarge,
  SourceOfLine,
  LevelTooLarge,
  BufferShort,
  ImageMalformed,
  DeadlineTooLarge,
  ClockInRealtime,
  AnotherRate,
  RateNeedsNewForm,
}
use Rattle.board.specs.declared.calls.Call.{Call}
use Rattle.board.specs.declared.calls.Call.TheVariants.{Deadline}
use Rattle.board.specs.Loops.{map_from}
use Rattle.board.specs.Board.{BoardFits, word_deadline, sound}
use Rattle.board.specs.Refusals.{refusal_number, refusal_code}
use Rattle.board.specs.Calls.{is_present, or_zero, length_refusal}
use Rattle.board.specs.Calls.{DirectAnswer, effect_of, refusal_of, board_after, answer_of}
use Rattle.board.specs.Answers.{deadline_members}
use Rattle.channel.specs.Matches.{matches_of}
use Rattle.board.specs.Channels.{matches_all}
use Rattle.board.specs.CodeCalls.{matches_given, deadline_given, length_given}
use Rattle.board.specs.Demand.{DeadlinePromise}
use Rattle.board.proofs.Demand3.{demand_3}
use Rattle.board.proofs.Soundness.{wired_line, wired_sound}

-- ---- refused or accepted

-- no refusal: the board is sound, and the call's own refusal is 0
pub accepted_sound : (b : Board) (own : ℕ) → refusal_of b own ≡ 0 → sound b ≡ true
accepted_sound b own = accepted (sound b)
  where
    accepted : (v : Bool) → cond v own 1 ≡ 0 → v ≡ true
    accepted true e = refl
    accepted false e = absurd (omega arith)

-- 0 is no refusal's number
pub some_refusal : (x : Refusal) → eqb (refusal_number x) 0 ≡ false
some_refusal NotSound = refl
some_refusal HeaderCut = refl
some_refusal TagUnknown = refl
some_refusal LengthWrong = refl
some_refusal ValueCut = refl
some_refusal AddressTooLarge = refl
some_refusal NanosecondsTooLarge = refl
some_refusal SourceTooLarge = refl
some_refusal SourceOfLine = refl
some_refusal LevelTooLarge = refl
some_refusal BufferShort = refl
some_refusal ImageMalformed = refl
some_refusal DeadlineTooLarge = refl
some_refusal ClockInRealtime = refl
some_refusal AnotherRate = refl
some_refusal RateNeedsNewForm = refl

module _ (call : Call) (b : Board) where
  -- x is the refusal that the code has
  pub answer-refused : (x : Refusal) → refusal_number x ≡ refusal_of b (effect_of call b).refusal →
      record { board = b; refusal = refusal_number x; members = [] } ≡ answer_of call b
  unfolding answer_of
  answer-refused x e = rw (← e, some_refusal x)

  pub answered-refusal : (answer_of call b).refusal ≡ refusal_of b (effect_of call b).refusal
  unfolding answer_of
  answered-refusal =
      either (eqb (refusal_of b (effect_of call b).refusal) 0) (λ e. rw e (sym (eqb-true _ 0 e))) (λ e. rw e)

  pub answer-accepted : refusal_of b (effect_of call b).refusal ≡ 0 →
      answer_of call b ≡ record { board = board_after call b; refusal = 0; members = (effect_of call b).members }
  unfolding answer_of
  answer-accepted e = rw e

-- a board that is not sound is refused whatever the call's own refusal is
pub unsound_first : (b : Board) (own : ℕ) (x : Refusal) → refusal_number x ≡ refusal_of b 0 →
    refusal_number x ≡ refusal_of b own
unsound_first b own x e =
    either (sound b)
    (λ s. let z : refusal_number x ≡ 0 = e ∙ rw s in absurd (false≢true (sym (some_refusal x) ∙ rw z)))
    (λ s. let z : refusal_number x ≡ 1 = e ∙ rw s in rw s z)

-- r is the check of soundness, and then a call's own
pub refused_and : (b : Board) (own : ℕ) (x y r : Result (Unit {0}) Refusal) → refusal_code x ≡ refusal_of b 0 →
    refusal_code y ≡ own → r ≡ result_and x y → refusal_code r ≡ refusal_of b own
refused_and b own x y r e f g = rw g (both x e)
  where
    both : (x : Result (Unit {0}) Refusal) → refusal_code x ≡ refusal_of b 0 →
        refusal_code (result_and x y) ≡ refusal_of b own
    both (Ok _) e = rw (accepted_sound b 0 (sym e)) f
    both (Err x) e = unsound_first b own x e

-- the same where it refuses
pub and-answers : (call : Call) (b : Board) (x y : Result (Unit {0}) Refusal) (r : Refusal) →
    refusal_code x ≡ refusal_of b 0 → refusal_code y ≡ (effect_of call b).refusal → Err r ≡ result_and x y →
    record { board = b; refusal = refusal_number r; members = [] } ≡ answer_of call b
and-answers call b x y r e f g = answer-refused call b r (refused_and b (effect_of call b).refusal x y (Err r) e f g)

-- ---- the members of answers

-- the counts of the channels
pub values_given : (f : ℕ → HardwareTimer → ℕ) (k : ℕ) (ts : List HardwareTimer) →
    map value_of (map_from (λ i h. wide_of (f i h)) k ts) ≡ map_from f k ts
unfolding map_from
values_given f k [] = refl
values_given f k (h ∷ ts) = rw (wide_value, values_given f (suc k) ts)

pub deadline_listed : (d : Option ℕ) →
    deadline_members (deadline_given d) ≡ flag_of (is_present d) ∷ or_zero d ∷ or_zero (word_deadline d) ∷ []
deadline_listed none = refl
deadline_listed (some d) = rw wide_value

-- the cycles of a skip's advance that the code makes
abbrev pub cycles_given : Result (Given Cycles) Refusal → Option ℕ
cycles_given (Ok None) = none
cycles_given (Ok (Some c)) = some c.0
cycles_given (Err refusal) = none

module _ (r : Result (Given Cycles) Refusal) where
  pub length-refused : (o : Option ℕ) → r ≡ length_given o → refusal_code r ≡ length_refusal o
  length-refused none e = rw e
  length-refused (some d) e = either (ltb largest d) (λ h. rw (e, h)) (λ h. rw (e, h))

  pub length-made : (o : Option ℕ) → r ≡ length_given o → refusal_code r ≡ 0 → o ≡ cycles_given r
  length-made none e z = rw e
  length-made (some d) e z =
      either (ltb largest d)
      (λ h. let n : 13 ≡ 0 = rw (e, h) at z in absurd (omega arith))
      (λ h. rw (e, h))

-- what is promised of a deadline, by the members of the answer
pub answer_promises : (b : Board) → BoardFits b → (r : DirectAnswer) → r ≡ answer_of Deadline b →
    DeadlinePromise b r
answer_promises b f r e s low o calls w =
    rw (e, answer-accepted Deadline b (rw s), flag_back) (demand_3 b f s low o calls w)

-- the answer of an advance, by its members
pub advance_lists : (b : Board) (c : ℕ) →
    map value_of (matches_given b.timer_enable c b.timers) ≡ matches_all b.timer_enable c b.timers
advance_lists b c = values_given (λ k h. matches_of (bit k b.timer_enable) c h) 0 b.timers

-- what the direct calls' contracts take
pub ruleset answer_laws = (accepted_sound, answer-refused, answer-accepted, refused_and, wired_sound)

pub ruleset advance_laws = (answer_laws, wired_line, advance_lists)
