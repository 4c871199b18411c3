-- One turn of each loop.
use Rattle.std.proofs.Common.{◌≡◌, ◌≢◌, ℕ, zero, suc, ◌+◌, ◌-◌, ◌<◌, ◌≤◌, List, refl, arith, eq-eqb, ne_eqb}
use Rattle.base_format.specs.declared.player.StreamPlayer.{StreamPlayer}
use Rattle.play_segments.specs.declared.place.Place.{Place}
use Rattle.play_segments.specs.Turn.{turn}
use Rattle.play_store_segment.specs.declared.Segment.{Segment}
use Rattle.test_records.specs.Mixed.{next32, record_mixed, value_at, records_mixed, segment_mixed, mixed_in}

module _ (file : List ℕ) where
  pub records_step : (segment : Segment) (count i place address sum : ℕ) → i < count
      → records_mixed file segment (count - i) i place address sum
      ≡ records_mixed file segment (count - (i + 1)) (i + 1) (next32 place) (next32 address) (record_mixed sum place segment.target address (value_at file segment i))
  unfolding records_mixed
  records_step segment count i place address sum h =
      let one : count - i ≡ suc (count - (i + 1)) = omega arith in
      rw one

  pub records_end : (segment : Segment) (count i place address sum : ℕ) → count ≤ i → records_mixed file segment (count - i) i place address sum ≡ sum
  unfolding records_mixed
  records_end segment count i place address sum h =
      let none : count - i ≡ 0 = omega arith in
      rw none

  module _ (state : StreamPlayer) where
    pub turns_step : (turns i : ℕ) (place : Place) (sum : ℕ) → i < turns → place.left ≢ 0
        → mixed_in (turns - i) file state place sum
        ≡ mixed_in (turns - (i + 1)) file state (turn file state place).place (segment_mixed file (turn file state place).segment (turn file state place).at sum)
    unfolding mixed_in
    turns_step turns i place sum h some =
        let one : turns - i ≡ suc (turns - (i + 1)) = omega arith in
        rw (one, ne_eqb _ _ some)

    pub turns_end : (turns : ℕ) (place : Place) (sum : ℕ) → place.left ≡ 0 → mixed_in turns file state place sum ≡ sum
    unfolding mixed_in
    turns_end zero place sum none = refl
    turns_end (suc turns) place sum none = rw (eq-eqb _ _ none)

    pub turns_over : (turns i : ℕ) (place : Place) (sum : ℕ) → turns ≤ i → mixed_in (turns - i) file state place sum ≡ sum
    unfolding mixed_in
    turns_over turns i place sum h =
        let none : turns - i ≡ 0 = omega arith in
        rw none
