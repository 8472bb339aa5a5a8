-- `run` meets its contract. Assumes nothing.
use mathlib.Core.Path.{◌≡◌, refl, sym, ap, ◌∙◌}
use mathlib.Core.Bool.{true, false}
use Prim.Native.Nat.{ℕ, ◌+◌, ◌-◌}
use native.Mathlib.Omega.{arith}
use lib.ListN.{length}
use Rattle.board.specs.Board.{sound}
use Rattle.board.specs.Calls.{board_after}
use Rattle.board.specs.Fields.{channel_at, with_timers, with_timer_enable, with_clock, with_channel}
use Rattle.board.proofs.Answers.{some_refusal}
use Rattle.board.proofs.Soundness.{sound_facts}
use Rattle.registers.specs.declared.writes.WritePart.{WritePart}
use Rattle.registers.specs.declared.writes.WritePart.TheVariants as W
use Rattle.registers.proofs.CodeWrites.{channel-range}
use Rattle.format.specs.Format.{header_length, value_length, answer_length}
use Rattle.format.specs.Codec.{call_at, call_length, refusal_at}
use Rattle.format.proofs.Frames.{part_rest}
use Rattle.list.specs.declared.Counts.{Counts}
use Rattle.list.specs.Run.{run_of, over}
use Rattle.steps.proofs.Advances.{begins, next-phase, advances, passed_over, still-timed, counts_begin}
use Rattle.steps.proofs.Advances.{next-zero, counts-next, counts-passed, counts_same, all-advanced, counts_end}
use Rattle.steps.proofs.Calls.{read_length, write_length, pass_length, pass_room, begun_room, Served, set_after}
use Rattle.steps.proofs.Calls.{other_of, plain_carried, read_carried, channel-written, write_carried, pass_carried}
use Rattle.steps.proofs.Calls.{other_carried}
use Rattle.list.proofs.Runs.{more_used, Ran, ended, ends, rest_bytes, goes_on}
use Rattle.list.proofs.Arms.{rest, at_step, rest_is, board_sound, timed, accepts, answer-inside}
use Rattle.list.proofs.Arms.{other_at, other_is}
use Rattle.list.proofs.run.Goals as goal
use Rattle.list.proofs.run.Goals.{then-runs, else-runs, in-Read, then-plain, else-plain, in-Write, in-Nothing}
use Rattle.list.proofs.run.Goals.{in-Enable}
use Rattle.list.proofs.run.Goals.{in-Acknowledge, in-Clock, in-Channel, in-Pass+else-loop-i-test, in_default}
use Rattle.list.proofs.run.Goals.{then-moved, else-moved}

-- ---- the returns

pub returns-then-not-sound : goal.returns-then-not-sound
unfolding run_of over
returns-then-not-sound c =
    let e : sound c.args.board ≡ false = sym c.sound.ensures.0 ∙ c.if-not-sound.true in
    let n = c.default.ensures in
    record { value = rw (e, n.0, n.1.0, n.1.1) refl; answers_after = rw e }

pub returns-in-Err : goal.returns-in-Err
unfolding run_of Ran
returns-in-Err c =
    let s : sound c.args.board ≡ true = sym c.sound.ensures.0 ∙ c.if-not-sound.false in
    let ran = ends _ _ _ _ _ _ c.loop-done.invariant c.loop-done-test.true _ (part_rest c.args.list.now
    c.loop-done.done.used) _ c.in-Err.ensures
    (some_refusal c.in-Err.refusal) in
    record { value = rw s ran.0; answers_after = rw s ran.1 }

pub returns : goal.returns
unfolding run_of Ran
returns c =
    let s : sound c.args.board ≡ true = sym c.sound.ensures.0 ∙ c.if-not-sound.false in
    let ran = ended _ _ _ _ _ c.loop-done.invariant c.loop-done-test.false in
    record { value = rw s ran.0; answers_after = rw s ran.1 }

-- ---- a read

pub plain_at-r-requires : goal.plain_at-r-requires
plain_at-r-requires c =
    let u = at_step c.loop-done.invariant c.loop-done-test.true c.in-Ok.step c.in-Ok.ensures in (
      sym c.plain.ensures ∙ c.if-plain.true,
      timed u,
      ap (λ (j : ℕ). channel_at j c.loop-done.b) c.channel_index-i.ensures.0,
    )

pub put_byte-requires : goal.put_byte-requires
put_byte-requires c =
    let u = at_step c.loop-done.invariant c.loop-done-test.true c.in-Ok.step c.in-Ok.ensures in
    let a = accepts u _ c.in-Read.is in
    omega (arith, answer-inside u a.0, (read_length _ _ a.1).1)

pub reading_at-r-requires : goal.reading_at-r-requires
reading_at-r-requires c =
    let u = at_step c.loop-done.invariant c.loop-done-test.true c.in-Ok.step c.in-Ok.ensures in
    (timed u, ap (λ (j : ℕ). channel_at j c.loop-done.b) c.channel_index-i.ensures.0)

pub put_byte-requires-else-plain : goal.put_byte-requires-else-plain
put_byte-requires-else-plain c =
    let u = at_step c.loop-done.invariant c.loop-done-test.true c.in-Ok.step c.in-Ok.ensures in
    let a = accepts u _ c.in-Read.is in
    omega (arith, answer-inside u a.0, (read_length _ _ a.1).1)

-- ---- a write

pub clock_after-after-requires : goal.clock_after-after-requires
clock_after-after-requires c =
    let u = at_step c.loop-done.invariant c.loop-done-test.true c.in-Ok.step c.in-Ok.ensures in
    timed u

pub timer_after-after-requires : goal.timer_after-after-requires
timer_after-after-requires c = channel-range _ (sym c.part_at.ensures ∙ c.in-Channel.is)

pub at_control-moved-requires : goal.at_control-moved-requires
at_control-moved-requires c = channel-range _ (sym c.part_at.ensures ∙ c.in-Channel.is)

pub put_header_of-requires : goal.put_header_of-requires
put_header_of-requires c =
    let u = at_step c.loop-done.invariant c.loop-done-test.true c.in-Ok.step c.in-Ok.ensures in
    let a = accepts u _ c.in-Write.is in
    omega (arith, answer-inside u a.0, (write_length _ _ _ a.1).1)

-- ---- an advance, and a skip that makes one

pub put_begun-requires : goal.put_begun-requires
put_begun-requires c =
    let u = at_step c.loop-done.invariant c.loop-done-test.true c.in-Ok.step c.in-Ok.ensures in
    let a = accepts u _ c.in-Pass.is in
    pass_room _ _ _ _ a.1 _ _ (answer-inside u a.0)

pub loop-i-init : goal.loop-i-init
loop-i-init c =
    let u = at_step c.loop-done.invariant c.loop-done-test.true c.in-Ok.step c.in-Ok.ensures in
    let g = c.loop-done.invariant.good in (
      begins _ _ _ g.fits.four (sound_facts _ (board_sound u)).timers,
      counts_begin _ _ _ _ c.loop-done.b g.fits.four _ _ c.put_begun.ensures,
    )

pub advance_cycles-after-requires : goal.advance_cycles-after-requires
advance_cycles-after-requires c = next-phase _ _ _ _ _ c.loop-i.invariant.0 c.loop-i-test.true

pub put_points-requires : goal.put_points-requires
put_points-requires c =
    let l = c.loop-i.invariant in
    let h = c.loop-i-test.true in
    let u = at_step c.loop-done.invariant c.loop-done-test.true c.in-Ok.step c.in-Ok.ensures in
    let a = accepts u _ c.in-Pass.is in
    let room = begun_room _ _ _ _ a.1 _ _ _ c.put_begun.ensures (answer-inside u a.0) in
    let m = counts_same _ _ _ _ _ _ _ l.0 _ _ l.1 in
    let n = next-zero _ _ _ _ _ _ _ l.0 _ _ l.1 h in
    (h, λ e. (omega (arith, room.0 e, m), n e))

pub loop-i-preserved : goal.loop-i-preserved
loop-i-preserved c =
    let l = c.loop-i.invariant in
    let h = c.loop-i-test.true in
    let e = c.selected-selected.ensures in
    elim c.if-runs.branch [
      | then-runs w ↦ (
        rw w.b-is (advances _ _ _ _ _ l.0 h _ e _ w.advance_cycles-after.ensures.0),
        counts-next _ _ _ _ _ _ _ l.0 _ _ l.1 h _ e _ w.advance_cycles-after.ensures.1 _ _ w.put_points.ensures
            w.answers-is,
      )
      | else-runs w ↦
          let r = sym c.runs.ensures ∙ w.if-runs.false in (
            rw w.b-is (passed_over _ _ _ _ _ l.0 h _ e r),
            w.answers-is ∙ counts-passed _ _ _ _ _ _ _ l.0 _ _ l.1 h _ e r,
          )
    ]

pub advance-later-requires : goal.advance-later-requires
advance-later-requires c =
    let u = at_step c.loop-done.invariant c.loop-done-test.true c.in-Ok.step c.in-Ok.ensures in
    still-timed _ _ _ _ _ c.loop-i.invariant.0 (timed u)

pub put_passed-requires : goal.put_passed-requires
put_passed-requires c =
    let l = c.loop-i.invariant in
    let u = at_step c.loop-done.invariant c.loop-done-test.true c.in-Ok.step c.in-Ok.ensures in
    let a = accepts u _ c.in-Pass.is in
    let room = begun_room _ _ _ _ a.1 _ _ _ c.put_begun.ensures (answer-inside u a.0) in
    let m = counts_same _ _ _ _ _ _ _ l.0 _ _ l.1 in
    omega (arith, room.1, m)

-- ---- the other calls

pub put_other-requires : goal.put_other-requires
put_other-requires c =
    let u = at_step c.loop-done.invariant c.loop-done-test.true c.in-Ok.step c.in-Ok.ensures in
    let k = other_of c.in_default.not-Read c.in_default.not-Write
    c.in_default.not-Pass in
    let d = other_is u k c.changes_of-c.result c.changes_of-c.ensures.changed in
    omega (arith, answer-inside u (other_at u k).0, d.1.0, d.1.1)

-- ---- where the arms meet

-- the call is accepted
accepted : (c : goal.After-struct_known-in-loop-done-3-1) →
    refusal_at c.loop-done.b (rest c.args.list.now c.loop-done.done.used)
    (length c.loop-done.answers - c.loop-done.done.written)
    ≡ 0
accepted c =
    let u = at_step c.loop-done.invariant c.loop-done-test.true c.in-Ok.step c.in-Ok.ensures in
    elim c.match-step.branch [
      | in-Read w ↦ (accepts u _ w.in-Read.is).0
      | in-Write w ↦ (accepts u _ w.in-Write.is).0
      | in-Pass+else-loop-i-test w ↦ (accepts u _ w.in-Pass.is).0
      | in_default w ↦ (other_at u
          (other_of w.in_default.not-Read
          w.in_default.not-Write w.in_default.not-Pass)).0
    ]

-- the bytes of a call, and of its record, by its tag
abbrev call-bytes : ℕ → ℕ
call-bytes tag = header_length + value_length tag

abbrev record-bytes : ℕ → ℕ
record-bytes tag = header_length + answer_length tag

-- the bytes of the call are added to those used, and the other counts stay
counted : (c : goal.After-struct_known-in-loop-done-3-1) →
    c.match-step.done ≡ more_used c.loop-done.done (call_length (call_at (rest c.args.list.now c.loop-done.done.used)))
counted c =
    let u = at_step c.loop-done.invariant c.loop-done-test.true c.in-Ok.step c.in-Ok.ensures in
    let more = more_used c.loop-done.done in
    elim c.match-step.branch [
      | in-Read w ↦
          let n = read_length _ _ (accepts u _ w.in-Read.is).1 in
          w.done-is ∙ ap more (w.call_length.ensures ∙ sym n.0)
      | in-Write w ↦
          let n = write_length _ _ _ (accepts u _ w.in-Write.is).1 in
          w.done-is ∙ ap more (w.call_length-in-Write.ensures ∙ sym n.0)
      | in-Pass+else-loop-i-test w ↦
          let n = pass_length _ _ _ _ (accepts u _ w.in-Pass.is).1 in
          w.done-is ∙ ap more (w.call_length-in-Pass.ensures ∙ ap call-bytes w.tag-tag.ensures ∙ sym n.0)
      | in_default w ↦
          let k = other_of w.in_default.not-Read w.in_default.not-Write w.in_default.not-Pass in
          let d = other_is u k w.changes_of-c.result w.changes_of-c.ensures.changed in
          w.done-is ∙ ap more (w.call_length-in_default.ensures ∙ ap call-bytes w.tag_of-tag.ensures ∙ sym d.0)
    ]

-- the board, the buffer and the numbers are those of the call
served : (c : goal.After-struct_known-in-loop-done-3-1) →
    Served (call_at (rest c.args.list.now c.loop-done.done.used)) c.loop-done.b c.loop-done.done.used
    c.loop-done.done.written c.loop-done.answers c.match-step.b c.match-step.moved c.match-step.done.used
    c.match-step.size c.match-step.answers
served c =
    let u = at_step c.loop-done.invariant c.loop-done-test.true c.in-Ok.step c.in-Ok.ensures in
    let b = c.loop-done.b in
    let s = board_sound u in
    let at = c.loop-done.done.written in
    let buf = c.loop-done.answers in
    let call = call_at (rest c.args.list.now c.loop-done.done.used) in
    let used = ap (λ (d : Counts). d.used) (counted c) in
    elim c.match-step.branch [
      | in-Read w ↦
          let a = (accepts u _ w.in-Read.is).1 in
          let n = read_length _ _ a in
          record {
            carried = elim w.if-plain.branch [
              | then-plain v ↦ plain_carried b s at buf call _ a _ _ _ (sym w.plain.ensures ∙ v.if-plain.true) _
                  v.plain_at-r.ensures (w.b-is ∙ v.b-is) (w.moved-is ∙ v.moved-is)
                  (w.answers-is ∙ v.answers-is ∙ v.put_byte.ensures)
              | else-plain v ↦ read_carried b s at buf call _ a _ _ _ _ v.reading_at-r.ensures (w.b-is ∙ v.b-is)
                  (w.moved-is ∙ v.moved-is) (w.answers-is ∙ v.answers-is ∙ v.put_byte-else-plain.ensures)
            ];
            used = used;
            size = w.size-is ∙ w.record_length-size.ensures ∙ sym n.1;
          }
      | in-Write w ↦
          let a = (accepts u _ w.in-Write.is).1 in
          let n = write_length _ _ _ a in
          let part : (x : WritePart) → w.part_at.result ≡ x → x ≡ _ = λ x e. sym e ∙ w.part_at.ensures in
          let put = w.answers-is ∙ w.put_header_of.ensures in
          record {
            carried = elim w.match-part_at.branch [
              | in-Nothing v ↦ write_carried b s at buf call _ _ a W.Nothing (part _ v.in-Nothing.is) _
                  (w.b-is ∙ v.b-is) _ (w.moved-is ∙ v.moved-is) _ put
              | in-Enable v ↦ write_carried b s at buf call _ _ a W.Enable (part _ v.in-Enable.is) _
                  (w.b-is ∙ v.b-is ∙ ap (λ (x : ℕ). with_timer_enable x b) v.enable_after.ensures) _
                  (w.moved-is ∙ v.moved-is) _ put
              | in-Acknowledge v ↦ write_carried b s at buf call _ _ a W.Acknowledge (part _ v.in-Acknowledge.is) _
                  (w.b-is ∙ v.b-is ∙ ap (λ ts. with_timers ts b) v.acknowledged-cleared.ensures) _
                  (w.moved-is ∙ v.moved-is) _ put
              | in-Clock v ↦ write_carried b s at buf call _ _ a W.Clock (part _ v.in-Clock.is) _
                  (w.b-is ∙ v.b-is ∙ ap (λ x. with_clock x b) v.clock_after-after.ensures) _
                  (w.moved-is ∙ v.moved-is) _ put
              | in-Channel v ↦ write_carried b s at buf call _ _ a W.Channel (part _ v.in-Channel.is) _
                  (w.b-is ∙ v.b-is
                  ∙ ap (λ x. with_channel v.channel_index-i-in-Channel.result x b) v.timer_after-after.ensures
                  ∙ channel-written b s at buf _ _ v.channel_index-i-in-Channel.result
                  v.channel_index-i-in-Channel.ensures.0) _
                  (w.moved-is ∙ v.moved-is ∙ v.at_control-moved.ensures) _ put
            ];
            used = used;
            size = w.size-is ∙ w.record_length-size-in-Write.ensures ∙ sym n.1;
          }
      | in-Pass+else-loop-i-test w ↦
          let a = (accepts u _ w.in-Pass.is).1 in
          let n = pass_length _ _ _ _ a in
          let i = w.loop-i.invariant in
          record {
            carried =
                pass_carried b s at buf _ _
                (all-advanced _ _ _ _ _ i.0 w.loop-i-test.false refl w.advance-later.result w.advance-later.ensures) _
                w.line-line.ensures _ w.controller_wired-set.ensures _ w.b-is call _ a
                c.loop-done.invariant.good.fits.four _ w.moved-is _ _ _ w.put_begun.ensures
                (counts_end _ _ _ _ _ _ _ i.0 _ _ i.1 w.loop-i-test.false) (w.answers-is ∙ w.put_passed.ensures);
            used = used;
            size = w.size-is ∙ w.record_length-size-in-Pass.ensures ∙ ap record-bytes w.tag-tag.ensures ∙ sym n.1;
          }
      | in_default w ↦
          let k = other_of w.in_default.not-Read w.in_default.not-Write
          w.in_default.not-Pass in
          let d = other_is u k w.changes_of-c.result w.changes_of-c.ensures.changed in
          record {
            carried =
                other_carried b s at buf (rest c.args.list.now c.loop-done.done.used)
                (length c.loop-done.answers - c.loop-done.done.written) c.in-Ok.step (other_at u k)
                w.changes_of-c.result w.changes_of-c.ensures.changed _ w.b-is _ w.moved-is _
                (w.answers-is ∙ w.put_other.ensures);
            used = used;
            size =
                w.size-is ∙ w.record_length-size-in_default.ensures ∙ ap record-bytes w.tag_of-tag.ensures
                ∙ sym d.1.0;
          }
    ]

-- source 3 is set, or stays: the board is that of the accepted call
board_set : (c : goal.After-struct_known-in-loop-done-3-1) →
    c.if-moved.b ≡ board_after (call_at (rest c.args.list.now c.loop-done.done.used)) c.loop-done.b
board_set c =
    let k = (served c).carried in
    elim c.if-moved.branch [
      | then-moved w ↦ set_after _ _ _ _ _ _ _ k w.if-moved.true _ w.line.ensures _
          w.controller_wired-set-then-moved.ensures _ w.b-is
      | else-moved w ↦ w.b-is ∙ k.still w.if-moved.false
    ]

pub loop-done-preserved : goal.loop-done-preserved
loop-done-preserved c =
    let k = served c in
    let u = at_step c.loop-done.invariant c.loop-done-test.true c.in-Ok.step c.in-Ok.ensures in
    let bytes =
    rest_bytes c.args.list.now (rest c.args.list.now c.loop-done.done.used) c.loop-done.done.used (rest_is u)
    (λ i. omega (arith, c.type_inv.list i)) in
    goes_on _ _ _ _ _ _ c.loop-done.invariant c.loop-done-test.true (rest c.args.list.now c.loop-done.done.used)
    (rest_is u) (accepted c) bytes _ (board_set c) _ k.carried.put _ _ (counted c) k.size
