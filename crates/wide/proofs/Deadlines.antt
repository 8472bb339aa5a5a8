-- Laws of optional deadlines: what is due when. Assumes nothing.
use Rattle.std.proofs.Common.{◌≡◌, ℕ, ◌+◌, ◌≤◌, min, true, false, ◌||◌, leb, sym, refl, ap, ◌∙◌, arith, le-leb}
use Rattle.std.proofs.Common.{leb-false, leb-true}
use mathlib.Core.Bool.{false≢true}
use mathlib.Core.Option.{Option, none, some}
use borrow.Author.Tests.{lt-leb}
use Rattle.wide.specs.Deadline.{due, sooner}
use Rattle.wide.proofs.Choices.{either, leb_same}

-- the sooner of two is due where one of them is
pub due-sooner : (a b : Option ℕ) (t : ℕ) → due (sooner a b) t ≡ due a t || due b t
due-sooner none b t = refl
due-sooner (some a) none t = either (leb a t) (λ e. rw e) (λ e. rw e)
due-sooner (some a) (some b) t =
    either (leb a t)
    (λ e. let h = leb-true a t e in rw (e, le-leb (min a b) t (omega arith)))
    (λ e. let h = leb-false a t e in rw e (leb_same (min a b) t b t (λ k. omega arith) (λ k. omega arith)))

-- what is due stays due
pub due_later : (a : Option ℕ) (k s : ℕ) → due a k ≡ true → due a (k + s) ≡ true
due_later none k s e = e
due_later (some d) k s e = let h = leb-true d k e in le-leb d (k + s) (omega arith)

-- at least 1, where there is one
abbrev pub Positive : Option ℕ → Type 0
Positive none = Unit {0}
Positive (some n) = 1 ≤ n

-- such a deadline is not due at once
pub due_zero : (a : Option ℕ) → Positive a → due a 0 ≡ false
due_zero none h = refl
due_zero (some n) h = lt-leb n 0 h

-- what is due when says which deadline it is
pub due_is : (a : Option ℕ) (n : ℕ) → ((t : ℕ) → due a t ≡ leb n t) → a ≡ some n
due_is none n h = absurd (false≢true (h n ∙ le-leb n n (omega arith)))
due_is (some m) n h =
    ap some
    (both (leb-true m n (h n ∙ le-leb n n (omega arith))) (leb-true n m (sym (h m) ∙ le-leb m m (omega arith))))
  where
    both : m ≤ n → n ≤ m → m ≡ n
    both p q = omega arith
