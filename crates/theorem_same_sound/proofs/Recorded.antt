-- What an accepted jump says of any state and any file: what the state records is the lent file's. The tests of 25 are equalities.
use Prim.Native.Nat.{ℕ, ◌-◌, ◌≤◌}
use mathlib.Core.Bool.{true, not, beq, false≢true}
use mathlib.Core.List.{List, [], ◌∷◌}
use mathlib.Core.Path.{◌≡◌, refl, sym, ap₂}
use borrow.Author.Tests.{eq-eqb, eqb-true, ltb-false, not-false}
use lib.Dec.{eqb, ltb}
use lib.ListN.{length}
use Rattle.base_format.specs.declared.card.CardRequirement.{CardRequirement}
use Rattle.base_format.specs.declared.header.Header.{Header}
use Rattle.base_format.specs.declared.player.StreamPlayer.{StreamPlayer}
use Rattle.base_format.specs.Bytes.{same_bytes}
use Rattle.base_format.specs.Card.{cards_of}
use Rattle.base_format.specs.Checked.{ok}
use Rattle.base_format.specs.Header.{header_of}
use Rattle.base_format.specs.Index.{index_of}
use Rattle.base_format.specs.Jump.{same_header, same_card, same_cards, records_other, closing_past, jump_belongs, before_frame, no_frame, jumped}
use Rattle.base_format.specs.Player.{belongs}
use Rattle.base_format.specs.State.{part_of, moved}
use Rattle.base_format.specs.Stream.{Stream, read}
use Rattle.base_format.specs.Writes.{uses_si22}
use Rattle.base_format.proofs.Checks.{through, passed_test, passed_check, passed_last, or_false, and_true, ok_is, positive}
use Rattle.base_format.proofs.Equal.{same_bool, same_bytes_lem, bool_self, bytes_self}

-- HEADERS AND CARDS, EACH THE SAME AS ITSELF

pub header_self : (h : Header) → same_header h h ≡ true
unfolding same_header
header_self h =
    rw (
      eq-eqb h.version h.version refl,
      bool_self h.repeat,
      eq-eqb h.frame_period h.frame_period refl,
      eq-eqb h.card_count h.card_count refl,
      eq-eqb h.frame_count h.frame_count refl,
      eq-eqb h.pool_count h.pool_count refl,
      eq-eqb h.initial_count h.initial_count refl,
      eq-eqb h.directory_offset h.directory_offset refl,
      eq-eqb h.initial_start h.initial_start refl,
      eq-eqb h.frame_start h.frame_start refl,
      eq-eqb h.total_size h.total_size refl,
    )

card_self : (c : CardRequirement) → same_card c c ≡ true
unfolding same_card
card_self c =
    rw (
      eq-eqb c.slot c.slot refl,
      eq-eqb c.id_length c.id_length refl,
      eq-eqb c.id_offset c.id_offset refl,
      eq-eqb c.bulk_start c.bulk_start refl,
      eq-eqb c.bulk_length c.bulk_length refl,
      bytes_self c.id,
    )

pub cards_self : (cards : List CardRequirement) → same_cards cards cards ≡ true
unfolding same_cards
cards_self [] = refl
cards_self (c ∷ cards) = rw (card_self c, cards_self cards)

-- AND THOSE THAT ARE THE SAME, EQUAL

header_same : (a b : Header) → same_header a b ≡ true → a ≡ b
unfolding same_header
header_same a b h =
    let t₁ = and_true _ (eqb a.total_size b.total_size) h in
    let t₂ = and_true _ (eqb a.frame_start b.frame_start) t₁.0 in
    let t₃ = and_true _ (eqb a.initial_start b.initial_start) t₂.0 in
    let t₄ = and_true _ (eqb a.directory_offset b.directory_offset) t₃.0 in
    let t₅ = and_true _ (eqb a.initial_count b.initial_count) t₄.0 in
    let t₆ = and_true _ (eqb a.pool_count b.pool_count) t₅.0 in
    let t₇ = and_true _ (eqb a.frame_count b.frame_count) t₆.0 in
    let t₈ = and_true _ (eqb a.card_count b.card_count) t₇.0 in
    let t₉ = and_true _ (eqb a.frame_period b.frame_period) t₈.0 in
    let t = and_true (eqb a.version b.version) (beq a.repeat b.repeat) t₉.0 in
    λ i. record {
      version = eqb-true a.version b.version t.0 i;
      repeat = same_bool a.repeat b.repeat t.1 i;
      frame_period = eqb-true a.frame_period b.frame_period t₉.1 i;
      card_count = eqb-true a.card_count b.card_count t₈.1 i;
      frame_count = eqb-true a.frame_count b.frame_count t₇.1 i;
      pool_count = eqb-true a.pool_count b.pool_count t₆.1 i;
      initial_count = eqb-true a.initial_count b.initial_count t₅.1 i;
      directory_offset = eqb-true a.directory_offset b.directory_offset t₄.1 i;
      initial_start = eqb-true a.initial_start b.initial_start t₃.1 i;
      frame_start = eqb-true a.frame_start b.frame_start t₂.1 i;
      total_size = eqb-true a.total_size b.total_size t₁.1 i;
    }

card_same : (a b : CardRequirement) → same_card a b ≡ true → a ≡ b
unfolding same_card
card_same a b h =
    let t₁ = and_true _ (same_bytes a.id b.id) h in
    let t₂ = and_true _ (eqb a.bulk_length b.bulk_length) t₁.0 in
    let t₃ = and_true _ (eqb a.bulk_start b.bulk_start) t₂.0 in
    let t₄ = and_true _ (eqb a.id_offset b.id_offset) t₃.0 in
    let t = and_true (eqb a.slot b.slot) (eqb a.id_length b.id_length) t₄.0 in
    λ i. record {
      slot = eqb-true a.slot b.slot t.0 i;
      id_length = eqb-true a.id_length b.id_length t.1 i;
      id_offset = eqb-true a.id_offset b.id_offset t₄.1 i;
      bulk_start = eqb-true a.bulk_start b.bulk_start t₃.1 i;
      bulk_length = eqb-true a.bulk_length b.bulk_length t₂.1 i;
      id = same_bytes_lem a.id b.id t₁.1 i;
    }

cards_same : (cards others : List CardRequirement) → same_cards cards others ≡ true → cards ≡ others
unfolding same_cards
cards_same [] [] h = refl
cards_same [] (b ∷ bs) h = absurd (false≢true h)
cards_same (a ∷ more) [] h = absurd (false≢true h)
cards_same (a ∷ more) (b ∷ bs) h =
    let both = and_true (same_card a b) (same_cards more bs) h in
    ap₂ ◌∷◌ (card_same a b both.0) (cards_same more bs both.1)

-- WHAT AN ACCEPTED JUMP SAYS

pub record JumpTaken (state : StreamPlayer) (file index : List ℕ) (frame : ℕ) (next : StreamPlayer) : Type 0 where
  pub s : Stream
  pub reads : read file ≡ ok s
  pub belongs_together : belongs state file ≡ ok tt
  pub header_recorded : state.header ≡ header_of file
  pub cards_recorded : cards_of state.cards ≡ s.cards
  pub synth_recorded : state.uses_si22 ≡ uses_si22 s
  pub index_own : index ≡ index_of s
  pub low : 1 ≤ frame
  pub high : frame ≤ length s.frames
  pub is : next ≡ moved state (before_frame s (frame - 1) state.progress)

pub jump_taken : (state : StreamPlayer) (file index : List ℕ) (frame : ℕ) (next : StreamPlayer)
    → jumped state file index frame ≡ ok next → JumpTaken state file index frame next
unfolding jumped jump_belongs records_other
jump_taken state file index frame next e =
    let a = through (read file) _ e in
    let s = a.value in
    let b = passed_check (jump_belongs state file s) a.then in
    let c = passed_check (belongs state file) b.0 in
    let d = passed_test 25 0 (closing_past state (part_of state.progress.part)) c.1 in
    let f = passed_last 25 0 (records_other state file s) d.1 in
    let g = or_false _ (not (beq state.uses_si22 (uses_si22 s))) f in
    let i = or_false (not (same_header state.header (header_of file))) (not (same_cards (cards_of state.cards) s.cards)) g.0 in
    let j = passed_test 26 0 (not (same_bytes index (index_of s))) b.1 in
    let k = passed_test 27 0 (no_frame (length s.frames) frame) j.1 in
    let l = or_false (eqb frame 0) (ltb (length s.frames) frame) k.0 in
    record {
      s = s;
      reads = a.is;
      belongs_together = c.0;
      header_recorded = header_same _ _ (not-false _ i.0);
      cards_recorded = cards_same _ _ (not-false _ i.1);
      synth_recorded = same_bool _ _ (not-false _ g.1);
      index_own = same_bytes_lem _ _ (not-false _ j.0);
      low = positive frame l.0;
      high = ltb-false _ _ l.1;
      is = sym (ok_is k.1);
    }
