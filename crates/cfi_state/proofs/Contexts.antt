-- How the rows of a stack show a context.
use Rattle.std.proofs.Common.{◌≡◌, Ok, Err, ℕ, ◌+◌, ◌-◌, ◌<◌, ◌≤◌, Bool, true, false, nat_le, eqb, ◌&&◌, cond, Option, Some, None, IsSomeAnd, List, [], ◌∷◌, ◌++◌, length, reverse, take, get_or, refl, sym, ap, ◌∙◌, subst, arith}
use Rattle.std.proofs.Math.ListN.{set, length-set}
use Rattle.std.proofs.Math.Seq.{take-length}
use Rattle.std.proofs.lemmas.List.{length-take-le, length_push, take_all, take_more, take_more_set, take-set, length-reverse, reverse-append}
use Rattle.std.proofs.lemmas.Option.{get_or_from_slice_get}
use Rattle.std.proofs.lemmas.Bool.Decides.{nat_tests}
use Rattle.std.specs.FinMap.{len}
use Rattle.std.specs.List.{slice_get}
use Rattle.cfi_read_core.specs.declared.error.Error.{Error}
use Rattle.cfi_read_core.specs.declared.error.Error.TheVariants.{StackFull, PopWithEmptyStack, OutOfMemory}
use Rattle.cfi_read_core.specs.ListLimits.{HasRoomFor}
use Rattle.cfi_state.specs.MachineSettings.{is_at_limit}
use Rattle.cfi_state.specs.Machine.{Rules, copies_held}
use Rattle.cfi_state.specs.AllocatingOperations.{Performs}
use Rattle.cfi_state.specs.Row.{Row, with_parts}
use Rattle.cfi_state.specs.UnwindContexts.{ContextState, initial_of, context_of, IsContext, IsSameBelow, IsKept, context_rows_held, context_remember, context_restore, context_restore_from, context_end_of_cie}

module _ {T : Type 0} where
  pub copies_held-many : (rules : Rules T) (count : ℕ) → len rules ≡ count → 2 ≤ count → 1 ≡ copies_held (Some rules)
  copies_held-many rules count is many = grind (arith, nat_tests)

  pub copies_held-few : (rules : Rules T) (count : ℕ) → len rules ≡ count → count < 2 → 0 ≡ copies_held (Some rules)
  copies_held-few rules count is few = grind (arith, nat_tests)

  module _ (limit : Option ℕ) (row : Row T) (rows : List (Row T)) (depth : ℕ) (rules : Rules T) (ended : Bool) (context : IsContext limit rows depth rules ended) where
    rows_held-state : context_rows_held (context_of row rows depth rules ended) ≡ 1 + depth + copies_held (initial_of rules ended)
    rows_held-state = omega (arith, length-reverse (take depth rows), length-take-le depth rows context.0)

    pub room-within : (most : ℕ) → limit ≡ Some most → 1 + depth + copies_held (initial_of rules ended) ≤ most
    room-within most is = subst (λ l. HasRoomFor l (1 + depth + copies_held (initial_of rules ended))) is context.1

    pub is_at_limit-state : (most : ℕ) → limit ≡ Some most → (state : ContextState T) → context_of row rows depth rules ended ≡ state → (copies : ℕ) → copies ≡ copies_held state.initial_rules
        → eqb (depth + copies) (most - 1) ≡ is_at_limit limit (context_rows_held state)
    is_at_limit-state most is state shows copies count =
        let held = rows_held-state in
        let room = room-within most is in
        let hidden : copies ≡ copies_held (initial_of rules ended) = count ∙ ap (λ (s : ContextState T). copies_held s.initial_rules) (sym shows) in
        let test : eqb (depth + copies) (most - 1) ≡ eqb (context_rows_held (context_of row rows depth rules ended)) most = grind (arith, nat_tests) in
        test ∙ ap (λ l. is_at_limit l (context_rows_held (context_of row rows depth rules ended))) (sym is) ∙ ap (λ s. is_at_limit limit (context_rows_held s)) shows

  -- ---- remembered rows

  -- a restore takes the last one
  remembered-last : (rows : List (Row T)) (last : ℕ) (row : Row T) → last < length rows → row ≡ get_or rows last row
      → reverse (take (last + 1) rows) ≡ row ∷ reverse (take last rows)
  remembered-last rows last row within is =
      ap reverse (take_more rows last row within) ∙ reverse-append (take last rows) (get_or rows last row ∷ []) ∙ ap (λ r. r ∷ reverse (take last rows)) (sym is)

  pub remembers : (allocates : Type 0) (limit : Option ℕ) (row : Row T) (rows new : List (Row T)) (depth deeper : ℕ) (rules : Rules T) (ended : Bool) (state : ContextState T)
      → context_of row rows depth rules ended ≡ state → is_at_limit limit (context_rows_held state) ≡ false → IsKept rows depth row new deeper
      → Performs allocates (context_remember limit state) state (context_of row new deeper rules ended) (Ok (tt {0}))
  remembers allocates limit row rows new depth deeper rules ended state shows below kept =
      let expected : context_remember limit state ≡ Ok (record state { remembered = state.row ∷ state.remembered }) = rw below refl in
      let remembered : reverse (take deeper new) ≡ row ∷ reverse (take depth rows) = ap reverse kept.2 ∙ reverse-append (take depth rows) (row ∷ []) in
      subst (λ r. Performs allocates r state (context_of row new deeper rules ended) (Ok (tt {0}))) (sym expected)
      ((λ i. record { row = row; remembered = remembered i; initial_rules = initial_of rules ended })
      ∙ ap (λ (s : ContextState T). record s { remembered = s.row ∷ s.remembered }) shows)

  pub same-below : (row : Row T) (rows new : List (Row T)) (depth : ℕ) (rules : Rules T) (ended : Bool) → IsSameBelow depth rows new
      → context_of row new depth rules ended ≡ context_of row rows depth rules ended
  same-below row rows new depth rules ended same = λ i. record { row = row; remembered = reverse (same.1 i); initial_rules = initial_of rules ended }

  pub context-kept : (limit : Option ℕ) (row : Row T) (rows new : List (Row T)) (depth deeper : ℕ) (rules : Rules T) (ended : Bool) (state : ContextState T)
      → context_of row rows depth rules ended ≡ state → IsContext limit rows depth rules ended → is_at_limit limit (context_rows_held state) ≡ false → IsKept rows depth row new deeper
      → IsContext limit new deeper rules ended
  context-kept limit row rows new depth deeper rules ended state shows context below kept =
      let count : context_rows_held state ≡ 1 + depth + copies_held (initial_of rules ended) =
      ap context_rows_held (sym shows) ∙ rows_held-state limit row rows depth rules ended context in (
        kept.1,
        elim limit as (λ l. is_at_limit l (context_rows_held state) ≡ false → HasRoomFor l (1 + depth + copies_held (initial_of rules ended)) → HasRoomFor l (1 + deeper + copies_held (initial_of rules ended))) [
          | None ↦ λ below room. tt
          | Some most ↦ λ below room.
              let other : eqb (context_rows_held state) most ≡ false = below in
              let more : deeper ≡ depth + 1 = kept.0 in
              grind (arith, nat_tests)
        ] below context.1,
      )

  pub restores-none : (row : Row T) (rows : List (Row T)) (depth : ℕ) (rules : Rules T) (ended : Bool) (state : ContextState T)
      → context_of row rows depth rules ended ≡ state → depth ≡ 0 → Performs {B = Unit {0}} ⊥ (context_restore state) state state (Err PopWithEmptyStack)
  restores-none row rows depth rules ended state shows none =
      let empty : state.remembered ≡ [] = ap (λ (s : ContextState T). s.remembered) (sym shows) ∙ ap (λ n. reverse (take n rows)) none in
      subst (λ remembered. Performs {B = Unit {0}} ⊥ (context_restore_from state remembered) state state (Err PopWithEmptyStack)) (sym empty) (refl, refl)

  pub restores-last : (row after : Row T) (rows new : List (Row T)) (depth last : ℕ) (rules : Rules T) (ended : Bool) (state : ContextState T)
      → context_of row rows depth rules ended ≡ state → depth ≤ length rows → last + 1 ≡ depth
      → IsSomeAnd (slice_get rows last) (λ r. after ≡ with_parts row r.parts) → IsSameBelow last rows new
      → Performs {B = Unit {0}} ⊥ (context_restore state) state (context_of after new last rules ended) (Ok tt)
  restores-last row after rows new depth last rules ended state shows within one brought same =
      elim (slice_get rows last) as (λ o. slice_get rows last ≡ o → IsSomeAnd o (λ r. after ≡ with_parts row r.parts) → Performs {B = Unit {0}} ⊥ (context_restore state) state (context_of after new last rules ended) (Ok tt)) [
        | None ↦ λ at brought. absurd brought
        | Some r ↦ λ at brought.
            let top : reverse (take depth rows) ≡ r ∷ reverse (take last rows) =
            ap (λ n. reverse (take n rows)) (sym one) ∙ remembered-last rows last r (omega (arith, within, one)) (sym (get_or_from_slice_get rows last r r at)) in
            let whole : state ≡ record { row = row; remembered = r ∷ reverse (take last rows); initial_rules = initial_of rules ended } =
            sym shows ∙ (λ i. record { row = row; remembered = top i; initial_rules = initial_of rules ended }) in
            subst (λ s. Performs {B = Unit {0}} ⊥ (context_restore s) s (context_of after new last rules ended) (Ok tt)) (sym whole)
            (λ i. record { row = brought i; remembered = reverse (same.1 i); initial_rules = initial_of rules ended })
      ] refl brought

  -- ---- rows that are written to a stack

  pub same_below-set : (rows lent : List (Row T)) (place : ℕ) (row : Row T) → lent ≡ rows → place < length rows → IsSameBelow place rows (set lent place row)
  same_below-set rows lent place row is within = (omega (arith, length-set lent place row, ap length is, within), take-set lent place row ∙ ap (take place) is)

  pub kept-over : (old new : List (Row T)) (depth : ℕ) (row : Row T) → depth < length old → new ≡ set old depth row → IsKept old depth row new (depth + 1)
  kept-over old new depth row within is =
      (refl, omega (arith, ap length is, length-set old depth row, within), ap (take (depth + 1)) is ∙ take_more_set old depth row within)

  pub kept-appended : (old new : List (Row T)) (depth : ℕ) (row : Row T) → depth ≡ length old → new ≡ old ++ row ∷ [] → IsKept old depth row new (length new)
  kept-appended old new depth row all is = (
    omega (arith, ap length is, length_push old row, all),
    omega arith,
    take-length new ∙ is ∙ ap (λ rows. rows ++ row ∷ []) (sym (take_all depth old (omega (arith, all)))),
  )

  module _ (row : Row T) (rows : List (Row T)) (depth : ℕ) (rules : Rules T) (ended : Bool) (state : ContextState T) (shows : context_of row rows depth rules ended ≡ state)
      (remembered items slice : List (Row T)) (seen : reverse remembered ≡ state.remembered) (copied : items ≡ remembered) (lent : slice ≡ items)
      (copies : Rules T) (same : copies ≡ rules) where
    pub shows-copy : (copy : Row T) → copy ≡ row → context_of copy items (length slice) copies ended ≡ state
    shows-copy copy is =
        let all : reverse (take (length slice) items) ≡ reverse (take depth rows) =
        ap reverse (ap (λ l. take (length l) items) lent ∙ take-length items ∙ copied) ∙ seen ∙ sym (ap (λ (s : ContextState T). s.remembered) shows) in
        (λ i. record { row = is i; remembered = all i; initial_rules = initial_of (same i) ended }) ∙ shows

    pub context-copy : (limit : Option ℕ) → IsContext limit rows depth rules ended → IsContext limit items (length slice) copies ended
    context-copy limit context =
        let count : depth ≡ length slice =
        omega (arith, ap length lent, ap length copied, length-reverse remembered, ap length seen, ap (λ (s : ContextState T). length s.remembered) shows, length-reverse (take depth rows), length-take-le depth rows context.0) in
        (omega (arith, ap length lent), subst (λ n. HasRoomFor limit (1 + n + copies_held (initial_of copies ended))) count (subst (λ r. HasRoomFor limit (1 + depth + copies_held (initial_of r ended))) (sym same) context.1))

  -- ---- the rules that the CIE's initial instructions ended with

  not_ended : (rules : Rules T) (ended : Bool) → initial_of rules ended ≡ None → ended ≡ false
  not_ended rules true none = cc
  not_ended rules false none = refl

  taken : (rules : Rules T) (held most depth : ℕ) → (nat_le 2 (len rules) && eqb held most) ≡ false → held ≤ most → held ≡ 1 + depth → 1 + depth + copies_held (Some rules) ≤ most
  taken rules held most depth room within is =
      elim (nat_le 2 (len rules)) as (λ t. (t && eqb held most) ≡ false → 1 + depth + cond t 1 0 ≤ most) [
        | true ↦ λ room. grind (arith, nat_tests)
        | false ↦ λ room. omega arith
      ] room

  -- two rules or more don't fit
  abbrev pub has_no_room : Option ℕ → ContextState T → Bool
  has_no_room limit state = nat_le 2 (len state.row.parts.rules) && is_at_limit limit (context_rows_held state)

  module _ (limit : Option ℕ) (state : ContextState T) where
    pub no_room : (count : ℕ) → len state.row.parts.rules ≡ count → 2 ≤ count → is_at_limit limit (context_rows_held state) ≡ true → has_no_room limit state ≡ true
    no_room count is many full =
        let two : nat_le 2 (len state.row.parts.rules) ≡ true = grind (arith, nat_tests) in
        ap (λ t. t && is_at_limit limit (context_rows_held state)) two ∙ full

    pub room-for_few : (count : ℕ) → len state.row.parts.rules ≡ count → count < 2 → has_no_room limit state ≡ false
    room-for_few count is few =
        let less : nat_le 2 (len state.row.parts.rules) ≡ false = grind (arith, nat_tests) in
        ap (λ t. t && is_at_limit limit (context_rows_held state)) less

    pub room-left : is_at_limit limit (context_rows_held state) ≡ false → has_no_room limit state ≡ false
    room-left below = elim (nat_le 2 (len state.row.parts.rules)) as (λ t. (t && is_at_limit limit (context_rows_held state)) ≡ false) [ true ↦ below | false ↦ refl ]

    pub saves-full : (allocates : Type 0) → has_no_room limit state ≡ true → Performs {B = Unit {0}} allocates (context_end_of_cie limit state) state state (Err StackFull)
    saves-full allocates full = rw full (refl, refl)

  module _ (limit : Option ℕ) (row : Row T) (rows : List (Row T)) (depth : ℕ) (old new : Rules T) (ended : Bool) (state : ContextState T)
      (shows : context_of row rows depth old ended ≡ state) (first : state.initial_rules ≡ None) where
    still : ended ≡ false
    still = not_ended old ended (ap (λ (s : ContextState T). s.initial_rules) shows ∙ first)

    pub saves : (allocates : Type 0) → has_no_room limit state ≡ false → new ≡ state.row.parts.rules
        → Performs allocates (context_end_of_cie limit state) state (context_of row rows depth new true) (Ok (tt {0}))
    saves allocates room is =
        let expected : context_end_of_cie limit state ≡ Ok (record state { initial_rules = Some state.row.parts.rules }) = rw room refl in
        subst (λ r. Performs allocates r state (context_of row rows depth new true) (Ok (tt {0}))) (sym expected)
        (λ i. record { row = (shows i).row; remembered = (shows i).remembered; initial_rules = Some (is i) })

    -- a refusal midway is not seen
    pub unsaved : context_of row rows depth new ended ≡ state
    unsaved = (λ i. record { row = row; remembered = reverse (take depth rows); initial_rules = initial_of new (still i) })
        ∙ (λ i. record { row = row; remembered = reverse (take depth rows); initial_rules = initial_of old (sym still i) }) ∙ shows

    pub saves-refused : (allocates : Type 0) → has_no_room limit state ≡ false → (error : Error) → error ≡ OutOfMemory → allocates
        → Performs {B = Unit {0}} allocates (context_end_of_cie limit state) state (context_of row rows depth new ended) (Err error)
    saves-refused allocates room error is wanted =
        let expected : context_end_of_cie limit state ≡ Ok (record state { initial_rules = Some state.row.parts.rules }) = rw room refl in
        subst (λ r. Performs {B = Unit {0}} allocates r state (context_of row rows depth new ended) (Err error)) (sym expected) (is, unsaved, wanted)

    pub context-unsaved : IsContext limit rows depth old ended → IsContext limit rows depth new ended
    context-unsaved context = subst (λ e. IsContext limit rows depth old e → IsContext limit rows depth new e) (sym still) (λ c. c) context

    pub context-saved : IsContext limit rows depth old ended → has_no_room limit state ≡ false → new ≡ state.row.parts.rules → IsContext limit rows depth new true
    context-saved context room is =
        let count : context_rows_held state ≡ 1 + depth + copies_held (initial_of old ended) =
        ap context_rows_held (sym shows) ∙ rows_held-state limit row rows depth old ended context in
        let none : copies_held (initial_of old ended) ≡ 0 = ap (λ e. copies_held (initial_of old e)) still in (
          context.0,
          elim limit as (λ l. (nat_le 2 (len state.row.parts.rules) && is_at_limit l (context_rows_held state)) ≡ false → HasRoomFor l (1 + depth + copies_held (initial_of old ended)) → HasRoomFor l (1 + depth + copies_held (Some new))) [
            | None ↦ λ room held. tt
            | Some most ↦ λ room held. subst (λ rules. 1 + depth + copies_held (Some rules) ≤ most) (sym is) (taken state.row.parts.rules (context_rows_held state) most depth room (omega (arith, held, none, count)) (omega (arith, none, count)))
          ] room context.1,
        )
