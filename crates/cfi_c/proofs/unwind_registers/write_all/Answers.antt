use Rattle.std.proofs.Common.{◌≡◌, ◌∙◌, ◌<◌, ◌+◌, ℕ, List, [], ◌∷◌, ◌++◌, Option, length, refl, sym, ap, subst, inl, inr, rules, arith}
use Rattle.std.specs.Prelude.{slice_set}
use Rattle.std.proofs.lemmas.List.{append-nil, length-append, length-map}
use Rattle.cfi_step.specs.Walks.{State}
use Rattle.cfi_step.proofs.Walking.{has_room}
use Rattle.cfi_c.specs.declared.frame.CfiFrame.{CfiFrame}
use Rattle.cfi_c.specs.declared.register.CfiValue.{CfiValue}
use Rattle.cfi_c.specs.RegisterFrames.{AreFirst, FrameWithRegisters, IsWalkWith, framed, frames_of, innermost, registers_written}
use Rattle.cfi_c.specs.PassedRegisters.{written_value}
use Rattle.cfi_c.proofs.RegisterWalks.{frames_after, next_first, one_frame, one_last, one_more, one_row, registers_after, too_short}
use Rattle.cfi_c.proofs.unwind_registers.write_all.Goals as goal

pub loop-index-init : goal.loop-index-init
loop-index-init g c = (
  (ap length c.requires.same, refl, omega arith, omega arith),
  (
    [],
    refl,
    refl,
    (refl, refl, refl),
    (refl, refl, refl),
    λ rest end walks.
        subst (λ (caller : List (Option ℕ)). IsWalkWith (g.P.Steps.is_step c.args.steps.now) (record (innermost c.args.pc c.args.registers.now) { caller = caller }) rest end) c.requires.same walks,
  ),
)

pub overflow_sub-values : goal.overflow_sub-values
overflow_sub-values g c = omega (arith, c.loop-index.invariant.0.2)

pub returns-then-values-first : goal.returns-then-values-first
returns-then-values-first g c =
    let here = c.loop-index.invariant.0 in
    let (done, counted, placed, frames, values, follows) = c.loop-index.invariant.1 in
    let none = c.no_room.ensures in
    let short : length c.args.values.now < c.loop-index.first + length c.args.registers.now = omega (arith, c.if-values-first.true, here.1, here.2, values.2) in (
      done,
      subst (λ (fs : List FrameWithRegisters). IsWalkWith (g.P.Steps.is_step c.args.steps.now) (innermost c.args.pc c.args.registers.now) fs c.no_room.result.end) (append-nil done)
          (follows [] c.no_room.result.end (ap (λ w. w.end) none)),
      ap (λ w. w.count) none ∙ counted,
      frames,
      values,
      λ _. inr (too_short (length c.args.registers.now) c.no_room.result.count c.loop-index.index c.loop-index.first (length c.args.values.now) (ap (λ w. w.count) none) here.3 short),
    )

pub write_registers-requires : goal.write_registers-requires
write_registers-requires g c = omega (arith, c.if-values-first.false, c.loop-index.invariant.0.2)

pub returns-in-Err : goal.returns-in-Err
returns-in-Err g c =
    let here = c.loop-index.invariant.0 in
    let (done, counted, placed, frames, values, follows) = c.loop-index.invariant.1 in
    let s : State = record { at = c.loop-index.at; registers = c.loop-index.registers; caller = c.loop-index.caller } in
    let f : FrameWithRegisters = framed s c.step-step.result in
    let inside : c.loop-index.index < length c.loop-index.frames = omega (arith, frames.2) in (
      done ++ (f ∷ []),
      one_last (g.P.Steps.is_step c.args.steps.now) (innermost c.args.pc c.args.registers.now) s done follows c.step-step.result c.step-step.new.caller c.step-step.ensures.step c.in-Err.end c.in-Err.ensures,
      ap (λ (k : ℕ). k + 1) counted ∙ sym (length-append done (f ∷ [])),
      subst (λ (w : List CfiFrame). AreFirst w c.args.frames.now (slice_set c.loop-index.frames c.loop-index.index c.of.result)) (sym (frames_after done f))
          (subst (λ (y : CfiFrame). AreFirst (frames_of done ++ (f.frame ∷ [])) c.args.frames.now (slice_set c.loop-index.frames c.loop-index.index y)) (sym c.of.ensures)
          (one_frame (frames_of done) c.args.frames.now c.loop-index.frames c.loop-index.index f.frame (length-map done (λ (x : FrameWithRegisters). x.frame) ∙ sym counted) inside frames)),
      subst (λ (w : List CfiValue). AreFirst w c.args.values.now c.write_registers.new.values) (sym (registers_after done f))
          (one_row (registers_written done) f.registers c.args.values.now c.loop-index.values c.write_registers.new.values c.loop-index.first (length c.loop-index.registers) (sym placed)
          (length-map c.loop-index.registers written_value) values c.write_registers.ensures.written c.write_registers.ensures.behind (search rules)),
      λ no_room. absurd (has_room c.step-step.result c.step-step.ensures.room c.in-Err.end c.in-Err.ensures no_room),
    )

pub loop-index-preserved : goal.loop-index-preserved
loop-index-preserved g c =
    let here = c.loop-index.invariant.0 in
    let (done, counted, placed, frames, values, follows) = c.loop-index.invariant.1 in
    let s : State = record { at = c.loop-index.at; registers = c.loop-index.registers; caller = c.loop-index.caller } in
    let f : FrameWithRegisters = framed s c.step-step.result in
    let inside : c.loop-index.index < length c.loop-index.frames = omega (arith, frames.2) in
    let room : length c.step-step.new.caller ≡ length c.copy_from_slice.new.self = search rules in
    let same_room : length c.copy_from_slice.new.self ≡ length c.args.registers.now = search rules in
    let same_length : length c.write_registers.new.values ≡ length c.loop-index.values = search rules in (
      (
        room,
        same_room,
        omega (arith, c.if-values-first.false, here.2, same_length),
        next_first c.loop-index.first c.loop-index.index (length c.loop-index.registers) (length c.args.registers.now) here.3 here.1,
      ),
      (
        done ++ (f ∷ []),
        ap (λ (k : ℕ). k + 1) counted ∙ sym (length-append done (f ∷ [])),
        ap (λ (k : ℕ). k + length c.loop-index.registers) placed
            ∙ (ap (λ (k : ℕ). length (registers_written done) + k) (sym (length-map c.loop-index.registers written_value))
            ∙ (sym (length-append (registers_written done) f.registers) ∙ sym (ap length (registers_after done f)))),
        subst (λ (w : List CfiFrame). AreFirst w c.args.frames.now (slice_set c.loop-index.frames c.loop-index.index c.of.result)) (sym (frames_after done f))
            (subst (λ (y : CfiFrame). AreFirst (frames_of done ++ (f.frame ∷ [])) c.args.frames.now (slice_set c.loop-index.frames c.loop-index.index y)) (sym c.of.ensures)
            (one_frame (frames_of done) c.args.frames.now c.loop-index.frames c.loop-index.index f.frame (length-map done (λ (x : FrameWithRegisters). x.frame) ∙ sym counted) inside frames)),
        subst (λ (w : List CfiValue). AreFirst w c.args.values.now c.write_registers.new.values) (sym (registers_after done f))
            (one_row (registers_written done) f.registers c.args.values.now c.loop-index.values c.write_registers.new.values c.loop-index.first (length c.loop-index.registers) (sym placed)
            (length-map c.loop-index.registers written_value) values c.write_registers.ensures.written c.write_registers.ensures.behind same_length),
        one_more (g.P.Steps.is_step c.args.steps.now) (innermost c.args.pc c.args.registers.now) s done follows c.step-step.result c.step-step.new.caller c.step-step.ensures.step c.in-Ok.next
            c.copy_from_slice.new.self c.in-Ok.ensures c.copy_from_slice.ensures.after,
      ),
    )

pub returns : goal.returns
returns g c =
    let (done, counted, placed, frames, values, follows) = c.loop-index.invariant.1 in
    let none = c.no_room-2.ensures in
    let over : c.loop-index.index ≡ length c.loop-index.frames = omega (arith, frames.2) in (
      done,
      subst (λ (fs : List FrameWithRegisters). IsWalkWith (g.P.Steps.is_step c.args.steps.now) (innermost c.args.pc c.args.registers.now) fs c.no_room-2.result.end) (append-nil done)
          (follows [] c.no_room-2.result.end (ap (λ w. w.end) none)),
      ap (λ w. w.count) none ∙ (sym over ∙ counted),
      frames,
      values,
      λ _. inl (ap (λ w. w.count) none ∙ frames.2),
    )
