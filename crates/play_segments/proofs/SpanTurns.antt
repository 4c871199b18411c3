-- The turn of an item's numbers is the turn of the item.
use Prim.Native.Nat.{ℕ, ◌+◌, ◌-◌, ◌≤◌, min}
use mathlib.Core.Bool.{Bool, true, false, cond}
use mathlib.Core.List.{List}
use mathlib.Core.Path.{◌≡◌, refl, ap, ◌∙◌}
use native.Mathlib.Omega.{arith}
use borrow.Author.Tests.{ltb-false, leb-true, leb-false}
use Rattle.std.specs.Prelude.{Some, None}
use lib.Dec.{leb, ltb}
use Rattle.base_format.specs.declared.operation.Item.{Item}
use Rattle.base_format.specs.declared.operation.Operation.{Operation}
use Rattle.base_format.specs.declared.operation.Operation.TheVariants.{Write, Fill, Copy}
use Rattle.base_format.specs.Checked.{Checked, ok, refused}
use Rattle.base_format.proofs.Checks.{or_false}
use Rattle.play_store_segment.specs.declared.Segment.{Segment}
use Rattle.play_segments.specs.declared.place.Place.{Place}
use Rattle.play_segments.specs.declared.place.Turn.{Turn}
use Rattle.play_item_span.specs.declared.span.Span.{Span}
use Rattle.play_segments.specs.Operation.{unplayable}
use Rattle.play_segments.specs.Place.{stopped, onward, run_place}
use Rattle.play_item_span.specs.Span.{span_of, span_from}
use Rattle.play_segments.specs.SpanTurn.{span_ended, span_segment, place_behind, span_turn}
use Rattle.play_segments.specs.Turn.{halted, operation_turn, turn_of}

-- what holds where the writes have not ended
pub goes_on_lem : (span : Span) (done : ℕ) → span_ended span done ≡ false → (done ≤ span.count) × (span.address + done ≤ 0xFFFFFFFF)
unfolding span_ended
goes_on_lem span done e =
    let both = or_false (ltb span.count done) _ e in
    (ltb-false _ _ both.0, ltb-false _ _ both.1)

chosen : (at room rest : ℕ) (segment : ℕ → Segment) (p q : Place)
    → ◌≡◌ {A = Turn} (record { at = at; segment = segment (min room rest); place = cond (leb room rest) p q }) (cond (leb room rest) (record { at = at; segment = segment room; place = p }) (record { at = at; segment = segment rest; place = q }))
chosen at room rest segment p q = go (leb room rest) refl
  where
    go : (b : Bool) → leb room rest ≡ b
        → ◌≡◌ {A = Turn} (record { at = at; segment = segment (min room rest); place = cond b p q }) (cond b (record { at = at; segment = segment room; place = p }) (record { at = at; segment = segment rest; place = q }))
    go true e =
        let less : min room rest ≡ room = omega (arith, leb-true room rest e) in
        rw less
    go false e =
        let more : min room rest ≡ rest = omega (arith, leb-false room rest e) in
        rw more

module _ (file : List ℕ) (directory : ℕ) (place : Place) where
  turn_chosen : (test : Bool) (rest next : ℕ) (segment : ℕ → Segment)
      → cond test (halted place) (record { at = run_place place; segment = segment (min place.room rest); place = place_behind place next rest })
      ≡ cond test (halted place) (cond (leb place.room rest) (record { at = run_place place; segment = segment place.room; place = stopped place })
      (record { at = run_place place; segment = segment rest; place = onward place next rest }))
  turn_chosen test rest next segment =
      ap (λ (t : Turn). cond test (halted place) t) (chosen (run_place place) place.room rest segment (stopped place) (onward place next rest))

  operation_turns : (operation : Operation) (next : ℕ) → span_turn place (span_of file directory operation next) ≡ operation_turn file directory place operation next
  unfolding span_turn operation_turn span_ended unplayable
  operation_turns (Write target address value) next =
      let span = span_of file directory (Write target address value) next in
      turn_chosen (span_ended span place.done) (span.count - place.done) next (span_segment span place.done)
  operation_turns (Fill target address size value) next =
      let span = span_of file directory (Fill target address size value) next in
      turn_chosen (span_ended span place.done) (span.count - place.done) next (span_segment span place.done)
  operation_turns (Copy target address id source size) next =
      let span = span_of file directory (Copy target address id source size) next in
      turn_chosen (span_ended span place.done) (span.count - place.done) next (span_segment span place.done)

  -- the turn of the numbers that are read, and where there is no item
  pub some_turns : (span : Span) (item : Checked Item) → Some span ≡ span_from file directory item → span_turn place span ≡ turn_of file directory place item
  some_turns span (ok item) is =
      let same : span ≡ span_of file directory item.operation item.next = cc in
      ap (span_turn place) same ∙ operation_turns item.operation item.next
  some_turns span (refused number at) is = cc

  pub none_turns : (item : Checked Item) → None ≡ span_from file directory item → halted place ≡ turn_of file directory place item
  none_turns (ok item) is = cc
  none_turns (refused number at) is = refl
