-- An advance of a sound board in parts: the counts that its parts answer for a channel add up to the count that one
-- advance of all their cycles answers, and a periodic channel's next compare point follows from them. The first is also
-- stated of the answers of direct calls. Assumes nothing.
use Prim.Native.Nat.{ℕ, ◌+◌, ◌*◌, ◌<◌}
use native.Mathlib.Nat.{zero-add}
use native.Mathlib.Numerals.{add-one}
use mathlib.Core.Path.{◌≡◌, refl, sym, ap, ap₂, ◌∙◌}
use mathlib.Core.Bool.{Bool, true, false}
use mathlib.Core.List.{List, [], ◌∷◌}
use lib.ListN.{length}
use Rattle.wide.specs.Bits.{bit}
use Rattle.channel.specs.Channel.{TimerFits, fresh_timer, mode_of, enabled_of, sound_timer}
use Rattle.channel.specs.Prescaler.{advanced}
use Rattle.channel.specs.Matches.{matches_of}
use Rattle.channel.specs.Splits.{total, advanced_by, matches_by, FewerPeriods}
use Rattle.channel.proofs.Splitting.{matches_split, next_compare_split, switched_off_split}
use Rattle.board.specs.declared.Board.{Board}
use Rattle.board.specs.Fields.{channel_at}
use Rattle.board.specs.Board.{BoardFits, wired, sound}
use Rattle.board.specs.Calls.{moved_board, advanced_board, advance_by, answer_of}
use Rattle.board.specs.Splits.{count_at, board_by, counts_by, answered_at, answered_by}
use Rattle.board.proofs.Loops.{map-length, map_at, each_at, all_at}
use Rattle.board.proofs.Soundness.{sound_facts}
use Rattle.board.specs.Kept.{Good}
use Rattle.board.proofs.Good.{good, good-sound}
use Rattle.board.proofs.Kept.{advanced_good}
use Rattle.board.proofs.Answers.{answer-accepted}

-- a channel's bit in timer enable
abbrev selects : ℕ → Board → Bool
selects i b = bit i b.timer_enable

-- ---- one advance, by a channel's own rules

module _ (c : ℕ) (b : Board) where
  -- the number of channels is kept
  channels-kept : length (advanced_board c b).timers ≡ length b.timers
  unfolding advanced_board moved_board wired
  channels-kept = map-length (λ k h. advanced (bit k b.timer_enable) c h) 0 b.timers

  module _ (i : ℕ) where
    -- and so is timer enable
    selects-kept : selects i (advanced_board c b) ≡ selects i b
    unfolding advanced_board moved_board wired
    selects-kept = refl

    module _ (l : i < length b.timers) where
      -- the count answered is the channel's
      count-is : count_at i c b ≡ matches_of (selects i b) c (channel_at i b)
      count-is =
          rw add-one
          (map_at (λ k h. matches_of (bit k b.timer_enable) c h) fresh_timer 0 b.timers i 0 l
          ∙ ap (λ (k : ℕ). matches_of (bit k b.timer_enable) c (channel_at i b)) (zero-add i))

      -- and the channel advances by its own rule
      channel-is : channel_at i (advanced_board c b) ≡ advanced (selects i b) c (channel_at i b)
      unfolding advanced_board moved_board wired
      channel-is =
          map_at (λ k h. advanced (bit k b.timer_enable) c h) fresh_timer fresh_timer b.timers i 0 l
          ∙ ap (λ (k : ℕ). advanced (bit k b.timer_enable) c (channel_at i b)) (zero-add i)

-- ---- a list of parts, by a channel's own rules

module _ (i : ℕ) where
  -- the counts answered are the channel's
  counts-are : (cs : List ℕ) (b : Board) → i < length b.timers →
      counts_by i cs b ≡ matches_by (selects i b) cs (channel_at i b)
  unfolding counts_by matches_by
  counts-are [] b l = refl
  counts-are (c ∷ cs) b l =
      ap₂ ◌+◌ (count-is c b i l)
      (counts-are cs (advanced_board c b) (rw (channels-kept c b) l)
      ∙ rw (selects-kept c b i, channel-is c b i l))

  -- and the channel advances by its own rule
  channel-by : (cs : List ℕ) (b : Board) → i < length b.timers →
      channel_at i (board_by cs b) ≡ advanced_by (selects i b) cs (channel_at i b)
  unfolding board_by advanced_by
  channel-by [] b l = refl
  channel-by (c ∷ cs) b l =
      channel-by cs (advanced_board c b) (rw (channels-kept c b) l)
      ∙ rw (selects-kept c b i, channel-is c b i l)

-- ---- a channel of a machine board

module _ (b : Board) (f : BoardFits b) (i : ℕ) (l : i < 4) (cs : List ℕ) where
  abbrev within : i < length b.timers
  within = rw f.four l

  -- 'how many compare points it met' in parts: on a sound board the counts that the parts' advances answer add up to
  -- the count that one advance answers, for every list of parts, none too
  pub counts-split : sound b ≡ true → counts_by i cs b ≡ count_at i (total cs) b
  counts-split s =
      counts-are i cs b within
      ∙ matches_split (selects i b) cs (channel_at i b) (each_at TimerFits fresh_timer b.timers i within f.timers)
      (all_at sound_timer fresh_timer b.timers i 0 within (sound_facts b s).timers)
      ∙ sym (count-is (total cs) b i within)

  -- in mode 1 and still enabled after all parts, it has its next compare point one period further for each point that
  -- the counts answer
  pub compare-split : mode_of (channel_at i b).control ≡ 1 →
      enabled_of (channel_at i (board_by cs b)).control ≡ true →
      (channel_at i (board_by cs b)).compare ≡ (channel_at i b).compare + counts_by i cs b * (channel_at i b).reload
  compare-split m e =
      rw (channel-by i cs b within, counts-are i cs b within)
      (next_compare_split (selects i b) cs (channel_at i b) m (rw (channel-by i cs b within) at e))

  -- in mode 1, enabled before and switched off by one of the parts, it has its old compare point plus some periods,
  -- fewer than the points that the counts answer
  pub switched-off-compare : mode_of (channel_at i b).control ≡ 1 → enabled_of (channel_at i b).control ≡ true →
      enabled_of (channel_at i (board_by cs b)).control ≡ false →
      FewerPeriods (counts_by i cs b) (channel_at i b).compare (channel_at i b).reload
      (channel_at i (board_by cs b)).compare
  switched-off-compare m a e =
      rw (channel-by i cs b within, counts-are i cs b within)
      (switched_off_split (selects i b) cs (channel_at i b) m a (rw (channel-by i cs b within) at e))

-- ---- the answers of direct calls

module _ (i : ℕ) where
  -- on a sound board an advance answers the count, and returns the board after it
  answered-is : (c : ℕ) (b : Board) → sound b ≡ true →
      (answered_at i c b ≡ count_at i c b) × ((answer_of (advance_by c) b).board ≡ advanced_board c b)
  unfolding advanced_board
  answered-is c b s = let a = answer-accepted (advance_by c) b (rw s) in (rw a, rw a)

  -- so that the counts answered are those of the parts
  answered-are : {rate : ℕ} (cs : List ℕ) (b : Board) → Good rate b → answered_by i cs b ≡ counts_by i cs b
  unfolding answered_by counts_by
  answered-are [] b g = refl
  answered-are (c ∷ cs) b g =
      let a = answered-is c b (good-sound g) in
      ap₂ ◌+◌ a.0
      (ap (answered_by i cs) a.1 ∙ answered-are cs (advanced_board c b) (advanced_good g c))

-- 'how many compare points it met' in parts: on a sound board, direct calls of advance, each on the board that the call
-- before returned, answer counts that add up to the count that one call with all their cycles answers
pub answers_split : (b : Board) → BoardFits b → sound b ≡ true → (i : ℕ) → i < 4 → (cs : List ℕ) →
    answered_by i cs b ≡ answered_at i (total cs) b
answers_split b f s i l cs =
    answered-are i cs b (good b f s) ∙ counts-split b f i l cs s ∙ sym (answered-is i (total cs) b s).0
