-- The counts that a run's advances answer, as they are read out of its answers: each is the count of the board before
-- the advance, and those of advances one after another add up to the count of one advance of all their cycles. Assumes
-- nothing.
use Prim.Native.Nat.{ℕ, zero, suc, ◌+◌, ◌-◌, ◌^◌, ◌≤◌, ◌<◌}
use native.Mathlib.Nat.{lt_of_lt_of_le}
use native.Mathlib.Omega.{arith}
use mathlib.Core.Path.{◌≡◌, refl, sym, ap, ap₂, ◌∙◌}
use mathlib.Core.Bool.{Bool, true, false}
use mathlib.Core.List.{List, [], ◌∷◌, ◌++◌, map, append-nil}
use lib.ListN.{length, get_or, drop}
use lib.Seq.{drop_at, drop-append_seam}
use lib.Dec.{lit≤}
use Rattle.wide.specs.Bits.{bit, flag_of}
use Rattle.channel.specs.declared.HardwareTimer.{HardwareTimer}
use Rattle.channel.specs.Splits.{total}
use Rattle.channel.proofs.Splitting.{matches_most}
use Rattle.board.specs.declared.Board.{Board}
use Rattle.board.specs.declared.calls.Call.{Call}
use Rattle.board.specs.Loops.{map_from}
use Rattle.board.specs.Channels.{matches_all}
use Rattle.board.specs.Board.{BoardFits, line, sound}
use Rattle.board.specs.Calls.{effect_of, advance_by, moved_board, advanced_board}
use Rattle.board.specs.Demand.{after}
use Rattle.board.specs.Splits.{count_at, counts_by}
use Rattle.board.specs.Kept.{Good}
use Rattle.board.proofs.Good.{good, good-sound}
use Rattle.board.proofs.Loops.{by_four}
use Rattle.board.proofs.Steps.{advance-call-step}
use Rattle.board.proofs.Matches.{counts-split}
use Rattle.format.specs.Format.{members_at}
use Rattle.format.specs.Codec.{answer_record}
use Rattle.format.proofs.Frames.{answer_size}
use Rattle.format.proofs.Members.{Fit, ended, ◌▸◌, members_back, record-members}
use Rattle.list.specs.Run.{Run, run_of}
use Rattle.list.specs.Demand.{ListIs}
use Rattle.list.proofs.TwoParts.{two-parts}
use Rattle.list.proofs.Kept.{began_sound, run_fits}
use Rattle.list.proofs.Demand.{accepted_after, bytes_before, bytes_behind}
use Rattle.resume.specs.Carried.{answers_of}
use Rattle.resume.specs.Counts.{count_in, counts_in}
use Rattle.resume.proofs.Carried.{run-carries, carries-all}
use Rattle.resume.proofs.OneCall.{run_call}

-- ---- the record of one advance

small : (n : ℕ) → n ≤ 2 ^ 64 → n < 256 ^ 16
small n h = lt_of_lt_of_le {m = 2 ^ 65} (omega (arith, h)) (lit≤ tt)

counts_fit : (enable c : ℕ) (ts : List HardwareTimer) → length ts ≡ 4 →
    Fit (16 ∷ 16 ∷ 16 ∷ 16 ∷ []) (matches_all enable c ts)
unfolding map_from
counts_fit enable c =
    by_four (λ (ts : List HardwareTimer). Fit (16 ∷ 16 ∷ 16 ∷ 16 ∷ []) (matches_all enable c ts))
    (λ h₀ h₁ h₂ h₃.
    small _ (matches_most (bit 0 enable) c h₀) ▸ small _ (matches_most (bit 1 enable) c h₁)
    ▸ small _ (matches_most (bit 2 enable) c h₂) ▸ small _ (matches_most (bit 3 enable) c h₃) ▸ ended)

flag_small : (v : Bool) → flag_of v < 256 ^ 1
flag_small true = omega arith
flag_small false = omega arith

module _ (c : ℕ) (b : Board) (four : length b.timers ≡ 4) (post : List ℕ) where
  record-read :
      members_at (answer_record (advance_by c) b ++ post) 0 (1 ∷ 2 ∷ 1 ∷ 16 ∷ 16 ∷ 16 ∷ 16 ∷ [])
      ≡ 4 ∷ 65 ∷ (effect_of (advance_by c) b).members
  record-read =
      ap (λ (l : List ℕ). members_at (l ++ post) 0 (1 ∷ 2 ∷ 1 ∷ 16 ∷ 16 ∷ 16 ∷ 16 ∷ []))
      (record-members 4 (1 ∷ 16 ∷ 16 ∷ 16 ∷ 16 ∷ []) (effect_of (advance_by c) b).members)
      ∙ members_back (1 ∷ 2 ∷ 1 ∷ 16 ∷ 16 ∷ 16 ∷ 16 ∷ []) (4 ∷ 65 ∷ (effect_of (advance_by c) b).members) fit [] post
    where
      fit : Fit (1 ∷ 2 ∷ 1 ∷ 16 ∷ 16 ∷ 16 ∷ 16 ∷ []) (4 ∷ 65 ∷ (effect_of (advance_by c) b).members)
      fit =
          let tag : 4 < 256 ^ 1 = omega arith in
          let long : 65 < 256 ^ 2 = omega arith in
          tag ▸ long ▸ flag_small (line (moved_board c b)) ▸ counts_fit b.timer_enable c b.timers four

  -- an advance of a board with four channels answers their counts, whatever stands behind its record
  pub counts-answered : (i : ℕ) → i < 4 → count_in i (answer_record (advance_by c) b ++ post) ≡ count_at i c b
  unfolding members_at
  counts-answered zero h = ap (λ (ms : List ℕ). get_or ms 3 0) record-read
  counts-answered (suc zero) h = ap (λ (ms : List ℕ). get_or ms 4 0) record-read
  counts-answered (suc (suc zero)) h = ap (λ (ms : List ℕ). get_or ms 5 0) record-read
  counts-answered (suc (suc (suc zero))) h = ap (λ (ms : List ℕ). get_or ms 6 0) record-read
  counts-answered (suc (suc (suc (suc i)))) h = absurd (omega (arith, h))

-- ---- an advance in a run

-- of a run over b whose list is `first` and `one`, one after the other, not refused: `one` is the bytes of an advance,
-- and the counts that it answers, behind the answers of `first`, are those of the board before it
pub advance_counts : (b : Board) (first one : List ℕ) (room c : ℕ) → BoardFits b →
    ((i : ℕ) → get_or (first ++ one) i 0 < 256) → ListIs one (advance_by c ∷ []) →
    (run_of b first room).outcome.refusal ≡ 0 → (run_of b (first ++ one) room).outcome.refusal ≡ 0 →
    (i : ℕ) → i < 4 →
    count_in i (drop (length (run_of b first room).answers) (run_of b (first ++ one) room).answers)
    ≡ count_at i c (run_of b first room).outcome.board
advance_counts b first one room c f bytes h z y i k =
    let at = (run_of b first room).outcome.board in
    let four = (run_fits b first room f (bytes_before first one bytes)).four in
    ap (count_in i)
    (ap (drop (length (run_of b first room).answers))
    ((run_call b first one [] room (advance_by c) f bytes h z).answer y)
    ∙ drop-append_seam (run_of b first room).answers (answer_record (advance_by c) at)
    ∙ sym (append-nil (answer_record (advance_by c) at)))
    ∙ counts-answered c at four [] i k

-- ---- advances one after another

advance_leaves : (c : ℕ) (b : Board) → sound b ≡ true → after (advance_by c) b ≡ advanced_board c b
unfolding advanced_board
advance_leaves c b s = sym (accepted_after (advance_by c) b s refl)

counts_added : {rate : ℕ} (i : ℕ) → i < 4 → (cs : List ℕ) (b : Board) → Good rate b →
    counts_in i (length cs) (answers_of (map advance_by cs) b) ≡ counts_by i cs b
unfolding counts_in answers_of counts_by
counts_added i k [] b g = refl
counts_added i k (c ∷ cs) b g =
    let rest = answers_of (map advance_by cs) (after (advance_by c) b) in
    ap₂ ◌+◌ (counts-answered c b g.fits.four rest i k)
    (ap (counts_in i (length cs)) (drop_at (answer_record (advance_by c) b) rest 68 (answer_size (advance_by c) b))
    ∙ counts_added i k cs (after (advance_by c) b) (advance-call-step b g c).good
    ∙ ap (counts_by i cs) (advance_leaves c b (good-sound g)))

-- where a run of advances is not refused: the counts of a channel that are read out of its answers add up to the count
-- that one advance of all their cycles answers
pub run_counts : (b : Board) (l : List ℕ) (room : ℕ) (cs : List ℕ) → BoardFits b →
    ((i : ℕ) → get_or l i 0 < 256) → ListIs l (map advance_by cs) → (run_of b l room).outcome.refusal ≡ 0 →
    (i : ℕ) → i < 4 → counts_in i (length cs) (run_of b l room).answers ≡ count_at i (total cs) b
run_counts b l room cs f bytes h z i k =
    let s = began_sound b l room z in
    ap (counts_in i (length cs))
    ((run-carries b l room f s bytes).answers
    ∙ ap (λ (calls : List Call). answers_of calls b) (carries-all b l room f s bytes (map advance_by cs) h z))
    ∙ counts_added i k cs b (good b f s)
    ∙ counts-split b f i k cs s

-- and so of advances anywhere in a run: of a run over b whose list is `first` and `stretch`, one after the other, not
-- refused, `stretch` is the bytes of the advances, and their answers stand behind those of `first`
pub stretch_counts : (b : Board) (first stretch : List ℕ) (room : ℕ) (cs : List ℕ) → BoardFits b →
    ((i : ℕ) → get_or (first ++ stretch) i 0 < 256) → ListIs stretch (map advance_by cs) →
    (run_of b first room).outcome.refusal ≡ 0 → (run_of b (first ++ stretch) room).outcome.refusal ≡ 0 →
    (i : ℕ) → i < 4 →
    counts_in i (length cs) (drop (length (run_of b first room).answers) (run_of b (first ++ stretch) room).answers)
    ≡ count_at i (total cs) (run_of b first room).outcome.board
stretch_counts b first stretch room cs f bytes h z y i k =
    let before = run_of b first room in
    let few = bytes_before first stretch bytes in
    let left = room - length before.answers in
    let e = two-parts b first stretch room f few z in
    ap (counts_in i (length cs))
    (ap (λ (q : Run). drop (length before.answers) q.answers) e
    ∙ drop-append_seam before.answers (run_of before.outcome.board stretch left).answers)
    ∙ run_counts before.outcome.board stretch left cs (run_fits b first room f few)
    (bytes_behind first stretch bytes) h (sym (ap (λ (q : Run). q.outcome.refusal) e) ∙ y) i k
