-- The calls that a run carries out, each by a law of its name: the board that the code's way leaves, whether source
-- 3 is
-- still to be set to the line, and the record that it puts. Assumes nothing.
use Prim.Native.Nat.{ℕ, ◌+◌, ◌≤◌}
use native.Mathlib.Omega.{arith}
use mathlib.Core.Path.{◌≡◌, refl, sym, ap, ◌∙◌, subst}
use mathlib.Core.Bool.{Bool, true, false, true≢false, false≢true}
use mathlib.Core.Option.{Option}
use Rattle.std.specs.Prelude.{Ok}
use mathlib.Core.List.{List, [], ◌∷◌, append-nil}
use lib.ListN.{length}
use lib.Seq.{sets}
use lib.Dec.{eqb}
use Rattle.wide.specs.Bits.{bit, flag_of}
use Rattle.wide.proofs.Choices.{choose}
use Rattle.channel.specs.declared.Cycles.{Cycles}
use Rattle.channel.specs.Registers.{byte_written}
use Rattle.channel.specs.Matches.{matches_of}
use Rattle.controller.specs.declared.IrqController.{IrqController}
use Rattle.controller.specs.Controller.{source_set, controller_written, pending_cleared}
use Rattle.controller.proofs.Laws.{steady, level_other}
use Rattle.board.specs.declared.Board.{Board}
use Rattle.board.specs.declared.Latches.{Latches}
use Rattle.board.specs.declared.calls.Call.{Call}
use Rattle.board.specs.declared.calls.Call.TheVariants.{Read, Write}
use Rattle.board.specs.Registers.{register_of, byte_of, place_of}
use Rattle.board.specs.Fields.{with_controller, channel_at, with_channel}
use Rattle.board.specs.Board.{line, wired, sound}
use Rattle.board.specs.Channels.{matches_all}
use Rattle.board.specs.Calls.{effect_of, board_after, or_zero, moved_board, moved_by, source_refusal}
use Rattle.board.proofs.Loops.{map-length}
use Rattle.board.proofs.Soundness.{sound_facts, wired_sound}
use Rattle.registers.specs.declared.reads.LatchedReading.{LatchedReading}
use Rattle.registers.specs.declared.reads.PlainReading.{PlainReading}
use Rattle.registers.specs.declared.writes.WritePart.{WritePart}
use Rattle.registers.specs.declared.writes.WritePart.TheVariants.{Nothing, Enable, Acknowledge, Clock, Channel}
use Rattle.registers.specs.CodeReads.{channel_index, offset_reading, after_reading, plain_at}
use Rattle.registers.specs.CodeWrites.{part_of, written_by, moves_line}
use Rattle.registers.proofs.CodeReads.{read_parts}
use Rattle.registers.proofs.CodeWrites.{written_is}
use Rattle.registers.proofs.Latches.{plain-latches}
use Rattle.registers.proofs.Line.{write_still, read_still, still_wired}
use Rattle.format.specs.Format.{members_bytes, answer_bytes, value_bytes, record_of}
use Rattle.format.specs.CodeAnswers.{header_bytes}
use Rattle.format.specs.Codec.{tag_of, call_length, answer_record, record_length, call_at, refusal_at}
use Rattle.format.proofs.Frames.{answer-length}
use Rattle.format.proofs.Decoding.{clear}
use Rattle.steps.specs.declared.Passing.{Passing}
use Rattle.steps.specs.declared.Step.{Step}
use Rattle.steps.specs.declared.Step.TheVariants as T
use Rattle.steps.specs.declared.Changes.{Changes}
use Rattle.steps.specs.CodeSteps.{Reads, Writes, Passes, StepIs, other_call, with_changes, ChangesAre, Changed}
use Rattle.steps.specs.CodeSteps.{pass_call, begun_put, passed_put, other_put}
use Rattle.steps.proofs.Advances.{begun_length, no_counts}
use Rattle.steps.proofs.Records.{counts_put, counts_over, other_record, advance-record, skip_record}

-- the steps without an arm of their own
pub record Other (step : Step) : Type 0 where
  pub read : (offset : ℕ) → step ≡ T.Read offset → ⊥
  pub write : (byte offset : ℕ) → step ≡ T.Write byte offset → ⊥
  pub pass : (passing : Passing) (cycles : Cycles) → step ≡ T.Pass passing cycles → ⊥

pub other_of : {step : Step} → ((offset : ℕ) → step ≡ T.Read offset → ⊥) →
    ((byte offset : ℕ) → step ≡ T.Write byte offset → ⊥) →
    ((passing : Passing) (cycles : Cycles) → step ≡ T.Pass passing cycles → ⊥) → Other step
other_of r w p = record { read = r; write = w; pass = p }

-- what a way of the code leaves of a call: the board y, on which source 3 is to be set where `moved` says so, and the
-- buffer buf', with the call's record from index at on
pub record Carried (call : Call) (b : Board) (at : ℕ) (buf : List ℕ) (y : Board) (moved : Bool) (buf' : List ℕ) :
    Type 0 where
  pub set : moved ≡ true → wired y ≡ board_after call b
  pub still : moved ≡ false → y ≡ board_after call b
  pub put : buf' ≡ sets buf at (answer_record call b)

module _ (b : Board) (s : sound b ≡ true) (at : ℕ) (buf : List ℕ) where
  -- by the board ahead of source 3
  by_effect : (call : Call) (y : Board) (moved : Bool) (buf' : List ℕ) → y ≡ (effect_of call b).board →
      (moved ≡ false → wired y ≡ y) → buf' ≡ sets buf at (answer_record call b) → Carried call b at buf y moved buf'
  by_effect call y moved buf' e still p =
      record { set = λ _. ap wired e; still = λ m. sym (still m) ∙ ap wired e; put = p }

  -- ---- read

  module _ (call : Call) (offset : ℕ) (r : Reads call offset) (y : Board) (moved : Bool) (buf' : List ℕ) where
    -- with the latches
    pub read_carried : (t : LatchedReading) → t ≡ offset_reading offset b → y ≡ after_reading t b →
        moved ≡ t.plain.rose →
        buf' ≡ sets buf at (record_of 2 (answer_bytes 2 (t.plain.byte ∷ []))) → Carried call b at buf y moved buf'
    read_carried t e f h p =
        let k = read_parts r.address b in
        let y' : y ≡ after_reading (offset_reading offset b) b = rw e at f in
        rw r.is
        (by_effect (Read r.address) y moved buf'
        (y' ∙ ap (λ (o : ℕ). after_reading (offset_reading o b) b) r.at ∙ sym k.0)
        (λ n. still_wired b y s
        (ap line y' ∙ read_still offset b (sym (ap (λ (q : LatchedReading). q.plain.rose) e) ∙ sym h ∙ n))
        (ap (λ (x : Board). x.controller) y'))
        (p ∙ ap (λ (q : LatchedReading). sets buf at (record_of 2 (answer_bytes 2 (q.plain.byte ∷ [])))) e
        ∙ ap (λ (o : ℕ). sets buf at (record_of 2 (answer_bytes 2 ((offset_reading o b).plain.byte ∷ [])))) r.at
        ∙ ap (λ (ms : List ℕ). sets buf at (record_of 2 (answer_bytes 2 ms))) (sym k.1)))

    -- a reading without the latches, which stay
    abbrev whole : PlainReading → LatchedReading
    whole t = record { latches = b.latches; plain = t }

    plain_whole : (t : PlainReading) → t ≡ (offset_reading offset b).plain → plain_at offset ≡ true →
        whole t ≡ offset_reading offset b
    plain_whole t e q =
        ap whole e
        ∙ ap (λ (ls : Latches). record { latches = ls; plain = (offset_reading offset b).plain })
        (sym (plain-latches offset q b))

    pub plain_carried : plain_at offset ≡ true → (t : PlainReading) → t ≡ (offset_reading offset b).plain →
        y ≡ after_reading (whole t) b → moved ≡ t.rose →
        buf' ≡ sets buf at (record_of 2 (answer_bytes 2 (t.byte ∷ []))) → Carried call b at buf y moved buf'
    plain_carried q t e f h p = read_carried (whole t) (plain_whole t e q) f h p

  -- ---- write

  -- a write leaves the controller
  controller_kept : (part : WritePart) (offset value : ℕ) → (written_by part offset value b).controller ≡ b.controller
  controller_kept Nothing offset value = refl
  controller_kept Enable offset value = refl
  controller_kept Acknowledge offset value = refl
  controller_kept Clock offset value = refl
  controller_kept Channel offset value = refl

  -- a byte written to a channel, whose index the code has
  pub channel-written : (offset value i : ℕ) → i ≡ channel_index offset →
      with_channel i (byte_written (register_of (place_of offset)) (byte_of offset) value (channel_at i b)) b
      ≡ written_by Channel offset value b
  channel-written offset value i e = rw e

  pub write_carried : (call : Call) (byte offset : ℕ) → Writes call byte offset → (part : WritePart) →
      part ≡ part_of offset → (y : Board) → y ≡ written_by part offset byte b → (moved : Bool) →
      moved ≡ moves_line part offset → (buf' : List ℕ) → buf' ≡ sets buf at (header_bytes 3 0) →
      Carried call b at buf y moved buf'
  unfolding members_bytes record_of
  write_carried call byte offset w part e y f moved h buf' p =
      rw w.is
      (by_effect (Write byte w.address) y moved buf'
      (f ∙ ap (λ (x : WritePart). written_by x offset byte b) e ∙ sym (written_is offset byte b)
      ∙ rw w.at)
      (λ n. still_wired b y s (ap line f ∙ write_still part offset byte b (sym h ∙ n))
      (ap (λ (x : Board). x.controller) f ∙ controller_kept part offset byte))
      (p ∙ ap (sets buf at) (sym (append-nil (header_bytes 3 0)))))

  -- ---- advance, and a skip that makes one

  -- z is the board with the cycles passed, v its line, and buf₁ and buf₂ the buffer ahead of them and with the counts
  module _ (c : ℕ) (z : Board) (m : z ≡ moved_board c b) (v : Bool) (e : v ≡ line z) (q : IrqController)
      (f : q ≡ source_set z.controller 3 v) (y : Board) (g : y ≡ with_controller q z) where
    set_moved : y ≡ wired (moved_board c b)
    unfolding wired
    set_moved = rw (g, f, e, m)

    pub pass_carried : (call : Call) (counted : Bool) → Passes call b counted c → length b.timers ≡ 4 →
        (moved : Bool) → moved ≡ false → (buf₁ buf₂ buf' : List ℕ) → buf₁ ≡ begun_put counted c at buf →
        buf₂ ≡ counts_put counted at (matches_all b.timer_enable c b.timers) buf₁ →
        buf' ≡ passed_put counted (flag_of v) at buf₂ → Carried call b at buf y moved buf'
    unfolding begun_put counts_put
    pass_carried call true p n moved o buf₁ buf₂ buf' h i j =
        record {
          set = λ t. absurd (true≢false (sym t ∙ o));
          still = λ _. set_moved ∙ ap (λ (x : Call). board_after x b) (sym (p.advance refl));
          put =
              j
              ∙ ap (passed_put true (flag_of v) at)
              (i ∙ ap (counts_put true at ns) h ∙ counts_over true at buf no_counts ns (sym four))
              ∙ advance-record (flag_of v) at ns buf four
              ∙ ap (λ (w : Bool). sets buf at (record_of 4 (answer_bytes 4 (flag_of w ∷ ns)))) (e ∙ ap line m)
              ∙ ap (λ (x : Call). sets buf at (answer_record x b)) (sym (p.advance refl));
        }
      where
        ns : List ℕ
        ns = matches_all b.timer_enable c b.timers

        four : length ns ≡ 4
        four = map-length (λ k t. matches_of (bit k b.timer_enable) c t) 0 b.timers ∙ n
    pass_carried call false p n moved o buf₁ buf₂ buf' h i j =
        record {
          set = λ t. absurd (true≢false (sym t ∙ o));
          still = λ _. set_moved ∙ ap (λ (l : Option ℕ). wired (moved_by l b)) (sym (p.skip refl).1)
              ∙ ap (λ (x : Call). board_after x b) (sym (p.skip refl).0);
          put =
              j
              ∙ ap (passed_put false (flag_of v) at) (i ∙ h)
              ∙ skip_record c (flag_of v) at buf
              ∙ ap (λ (w : Bool). sets buf at (record_of 6 (answer_bytes 6 (c ∷ flag_of w ∷ [])))) (e ∙ ap line m)
              ∙ ap (λ (l : Option ℕ). sets buf at
              (record_of 6 (answer_bytes 6 (or_zero l ∷ flag_of (line (moved_by l b)) ∷ [])))) (sym (p.skip refl).1)
              ∙ ap (λ (x : Call). sets buf at (answer_record x b)) (sym (p.skip refl).0);
        }

  -- ---- the others: they do not move the line, and leave the level of source 3

  level_still : (y : Board) → line y ≡ line b → bit 3 y.controller.levels ≡ bit 3 b.controller.levels →
      wired y ≡ y
  unfolding wired
  level_still y e l = rw (steady y.controller 3 (line y) (l ∙ (sound_facts b s).level ∙ sym e))

  -- the number of an accepted source is not that of the line
  source_apart : (number level : ℕ) → source_refusal number level ≡ 0 → 3 ≡ number → ⊥
  unfolding source_refusal
  source_apart number level z e = let nine : ◌≡◌ {A = ℕ} 9 0 = rw (← e) at z in omega (arith, nine)

  written_levels : (q : IrqController) (address byte : ℕ) → (controller_written q address byte).levels ≡ q.levels
  unfolding controller_written pending_cleared
  written_levels q address byte =
      choose P (eqb address 0) (λ _. refl)
      (λ _. choose P (eqb address 1) (λ _. refl)
      (λ _. choose P (eqb address 4) (λ _. refl) (λ _. choose P (eqb address 5) (λ _. refl) (λ _. refl))))
    where
      P : IrqController → Type 0
      P d = d.levels ≡ q.levels

  -- such a step: its call is accepted, leaves source 3 where it is, and has the step's changes
  abbrev pub OtherDoes : List ℕ → ℕ → Step → Type 0
  OtherDoes l room step =
      (refusal_at b l room ≡ 0)
      × ((call_at l ≡ other_call step)
      × ((wired (effect_of (other_call step) b).board ≡ (effect_of (other_call step) b).board)
      × ((c : Changes) → Changed step b c → ChangesAre (other_call step) b c)))

  pub other_does : (l : List ℕ) (room : ℕ) (step : Step) → Other step → StepIs b l room (Ok step) →
      OtherDoes l room step
  unfolding line
  other_does l room (T.Read offset) k h = absurd (k.read offset refl)
  other_does l room (T.Write byte offset) k h = absurd (k.write byte offset refl)
  other_does l room (T.Pass passing c) k h = absurd (k.pass passing c refl)
  other_does l room (T.HostTime nanoseconds seconds) k h =
      (h.0, (h.1, (level_still _ refl refl, λ c x. x)))
  other_does l room T.Stay k h = (h.0, (h.1.0, (rw h.1.1 (wired_sound b s), λ c x. x h.1.1)))
  other_does l room T.Deadline k h = (h.0, (h.1, (wired_sound b s, λ c x. x)))
  other_does l room (T.Source number level) k h =
      let z = rw h.1 at (clear b l room h.0).own in (
        h.0,
        (
          h.1,
          (
            level_still _ refl (level_other b.controller 3 number (eqb level 1) (source_apart number
                level z)),
            λ c x. x,
          ),
        ),
      )
  other_does l room (T.ControllerRead address) k h = (h.0, (h.1, (wired_sound b s, λ c x. x)))
  other_does l room (T.ControllerWrite byte address) k h =
      (h.0, (h.1, (level_still _ refl (ap (bit 3) (written_levels b.controller address byte)), λ c x. x)))
  other_does l room T.Output k h = (h.0, (h.1, (wired_sound b s, λ c x. x)))
  other_does l room (T.Refused refusal) k h = absurd h.1

  -- the bytes of the answer are as many as the record has
  pub other_size : (call : Call) (value ms : List ℕ) → value ≡ answer_bytes (tag_of call) ms →
      3 + length value ≡ record_length call
  other_size call value ms e = ap (λ (n : ℕ). 3 + n) (ap length e ∙ answer-length (tag_of call) ms)

  pub other_carried : (l : List ℕ) (room : ℕ) (step : Step) → OtherDoes l room step → (c : Changes) →
      Changed step b c → (y : Board) → y ≡ with_changes c.host c.controller b → (moved : Bool) →
      moved ≡ false → (buf' : List ℕ) →
      buf' ≡ other_put (tag_of (other_call step)) at (value_bytes c.answer) buf → Carried (call_at l) b at buf y
      moved buf'
  other_carried l room step d c h y f moved o buf' p =
      let a = d.1.1.1 c h in
      let e = f ∙ a.0 in
      subst (λ (x : Call). Carried x b at buf y moved buf') (sym d.1.0)
      (by_effect (other_call step) y moved buf' e (λ _. ap wired e ∙ d.1.1.0 ∙ sym e)
      (p ∙ other_record (tag_of (other_call step)) at (value_bytes c.answer) (effect_of (other_call step) b).members buf
      a.1))

-- ---- lengths

pub read_length : (call : Call) (offset : ℕ) → Reads call offset → (call_length call ≡ 5) × (record_length call ≡ 4)
read_length call offset r = rw r.is (refl, refl)

pub write_length : (call : Call) (byte offset : ℕ) → Writes call byte offset →
    (call_length call ≡ 6) × (record_length call ≡ 3)
write_length call byte offset w = rw w.is (refl, refl)

pub pass_length : (call : Call) (b : Board) (counted : Bool) (c : ℕ) → Passes call b counted c →
    (call_length call ≡ call_length (pass_call counted 0)) × (record_length call ≡ record_length (pass_call counted 0))
pass_length call b true c p = rw (p.advance refl) (refl, refl)
pass_length call b false c p = rw (p.skip refl).0 (refl, refl)

-- the room that the parts of its record ask for
pub pass_room : (call : Call) (b : Board) (counted : Bool) (c : ℕ) → Passes call b counted c → (at n : ℕ) →
    at + record_length call ≤ n → (counted ≡ true → at + 68 ≤ n) × (at + 12 ≤ n)
pass_room call b true c p at n h = let k : at + 68 ≤ n = rw (p.advance refl) at h in (λ _. k, omega (arith, k))
pass_room call b false c p at n h = (λ e. absurd (false≢true e), rw (p.skip refl).0 at h)

-- and that they still have behind what it begins with
pub begun_room : (call : Call) (b : Board) (counted : Bool) (c : ℕ) → Passes call b counted c → (at : ℕ)
    (buf buf₁ : List ℕ) → buf₁ ≡ begun_put counted c at buf → at + record_length call ≤ length buf →
    (counted ≡ true → at + 68 ≤ length buf₁) × (at + 12 ≤ length buf₁)
begun_room call b counted c p at buf buf₁ e h =
    pass_room call b counted c p at (length buf₁) (omega (arith, h, begun_length counted c at buf buf₁ e))

-- ---- a call that is carried out

-- what an arm of the run leaves: its board and buffer, and the bytes of the call and of its record
pub record Served (call : Call) (b : Board) (used₀ at : ℕ) (buf : List ℕ) (y : Board) (moved : Bool) (used₁ size₁ : ℕ)
    (buf' : List ℕ) : Type 0 where
  pub carried : Carried call b at buf y moved buf'
  pub used : used₁ ≡ used₀ + call_length call
  pub size : size₁ ≡ record_length call

-- source 3 is then set, or stays
pub set_after : (call : Call) (b : Board) (at : ℕ) (buf : List ℕ) (y : Board) (moved : Bool) (buf' : List ℕ) →
    Carried call b at buf y moved buf' → moved ≡ true → (v : Bool) → v ≡ line y → (q : IrqController) →
    q ≡ source_set y.controller 3 v → (z : Board) → z ≡ with_controller q y → z ≡ board_after call b
unfolding wired
set_after call b at buf y moved buf' k m v e q f z g = let h : z ≡ wired y = rw (g, f, e) in h ∙ k.set m
