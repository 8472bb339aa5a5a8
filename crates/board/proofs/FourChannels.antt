-- The channels' law, over the list of them: what is due after c cycles at t is what was due at c + t. k is the number
-- of the list's first channel. Assumes nothing.
use Prim.Native.Nat.{ℕ, suc, ◌+◌}
use mathlib.Core.Path.{◌≡◌, refl, sym, ap₂, ◌∙◌}
use mathlib.Core.Bool.{Bool, true, false, ◌&&◌, ◌||◌, or-true}
use mathlib.Core.Option.{Option, none}
use mathlib.Core.List.{List, [], ◌∷◌}
use Rattle.wide.specs.Bits.{bit}
use Rattle.wide.specs.Deadline.{due, sooner}
use Rattle.wide.proofs.Choices.{and_parts, and_join}
use Rattle.wide.proofs.Deadlines.{due-sooner}
use Rattle.channel.specs.declared.HardwareTimer.{HardwareTimer}
use Rattle.channel.specs.Channel.{TimerFits, line_of, sound_timer}
use Rattle.channel.specs.Prescaler.{advanced}
use Rattle.channel.specs.Deadline.{deadline_of}
use Rattle.channel.proofs.Sound.{GoodTimer, timer_good, timer_sound, advanced_good}
use Rattle.channel.proofs.Law.{channel_due, advance_due, line-due}
use Rattle.board.specs.Loops.{All, map_from, fold_from}
use Rattle.board.proofs.Loops.{map_all}

-- two parts of the line and of what is to come, taken by kind
pub or_swap : (a b c d : Bool) → ((a || b) || (c || d)) ≡ ((a || c) || (b || d))
or_swap true b c d = refl
or_swap false b true d = or-true b
or_swap false true false d = refl
or_swap false false false d = refl

-- ---- good channels are sound, and their words are words

abbrev sounds : ℕ → List HardwareTimer → Bool
sounds k ts = fold_from (λ _ h. sound_timer h) ◌&&◌ true k ts

pub channels_good : (k : ℕ) (ts : List HardwareTimer) → All TimerFits ts → sounds k ts ≡ true → All GoodTimer ts
unfolding fold_from
channels_good k [] f s = tt
channels_good k (h ∷ ts) f s =
    let p = and_parts (sound_timer h) (sounds (suc k) ts) s in
    (timer_good h f.0 p.0, channels_good (suc k) ts f.1 p.1)

pub channels-sound : (k : ℕ) (ts : List HardwareTimer) → All GoodTimer ts → sounds k ts ≡ true
unfolding fold_from
channels-sound k [] g = refl
channels-sound k (h ∷ ts) g =
    and_join (sound_timer h) (sounds (suc k) ts) (timer_sound h g.0) (channels-sound (suc k) ts g.1)

-- ---- what is due

module _ (enable : ℕ) where
  abbrev lines : ℕ → List HardwareTimer → Bool
  lines k ts = fold_from (λ _ h. line_of h) ◌||◌ false k ts

  abbrev deadlines : ℕ → List HardwareTimer → Option ℕ
  deadlines k ts = fold_from (λ i h. deadline_of (bit i enable) h) sooner none k ts

  abbrev advances : ℕ → ℕ → List HardwareTimer → List HardwareTimer
  advances c k ts = map_from (λ i h. advanced (bit i enable) c h) k ts

  -- some channel is in the line t cycles from here
  unfoldable pub channels_due : ℕ → List HardwareTimer → ℕ → Bool
  channels_due k ts t = lines k ts || due (deadlines k ts) t

  due-cons : (k : ℕ) (h : HardwareTimer) (ts : List HardwareTimer) (t : ℕ) →
      channels_due k (h ∷ ts) t ≡ (channel_due (bit k enable) h t || channels_due (suc k) ts t)
  unfolding channels_due channel_due fold_from
  due-cons k h ts t =
      rw due-sooner
      (sym (or_swap (line_of h) (due (deadline_of (bit k enable) h) t) (lines (suc k) ts)
      (due (deadlines (suc k) ts) t)))

  pub channels-advance-due : (c k : ℕ) (ts : List HardwareTimer) → All GoodTimer ts → (t : ℕ) →
      channels_due k (advances c k ts) t ≡ channels_due k ts (c + t)
  unfolding channels_due fold_from map_from
  channels-advance-due c k [] g t = refl
  channels-advance-due c k (h ∷ ts) g t =
      due-cons k (advanced (bit k enable) c h) (advances c (suc k) ts) t
      ∙ ap₂ ◌||◌ (advance_due (bit k enable) c h g.0.fits g.0.phase t)
      (channels-advance-due c (suc k) ts g.1 t)
      ∙ sym (due-cons k h ts (c + t))

  pub channels-line-due : (k : ℕ) (ts : List HardwareTimer) → All GoodTimer ts → lines k ts ≡ channels_due k ts 0
  unfolding channels_due fold_from
  channels-line-due k [] g = refl
  channels-line-due k (h ∷ ts) g =
      ap₂ ◌||◌ (line-due (bit k enable) h g.0.fits g.0.phase) (channels-line-due (suc k) ts g.1)
      ∙ sym (due-cons k h ts 0)

  -- an advance keeps them good
  pub channels-kept : (c k : ℕ) (ts : List HardwareTimer) → All GoodTimer ts → All GoodTimer (advances c k ts)
  channels-kept c = map_all GoodTimer (λ i h. advanced (bit i enable) c h) (λ i. advanced_good (bit i enable) c)
