-- The header of a pooled version is its parts and has the size that it says; its parts are written one behind the other.
use Prim.Native.Nat.{ℕ, ◌+◌, ◌≤◌, ◌<◌}
use mathlib.Core.Path.{◌≡◌, refl, ap, ◌∙◌}
use mathlib.Core.Bool.{Bool, true, false, cond, ◌||◌}
use mathlib.Core.List.{List, [], ◌++◌}
use native.Mathlib.Omega.{arith}
use borrow.Author.Tests.{eq-eqb, ne_eqb, eqb-true, eqb-false}
use lib.Dec.{eqb}
use lib.ListN.{length, length-append}
use Rattle.base_format.specs.declared.header.Header.{Header}
use Rattle.base_format.specs.Bytes.{Field, bytes_of_all}
use Rattle.base_format.specs.Header.{header_size}
use Rattle.base_format.specs.Written.{header_fields}
use Rattle.base_format.proofs.Fields.{fields_size_lem}
use Rattle.bytes_read.specs.Put.{put}
use Rattle.bytes_put_fields.proofs.Laid.{fields_append}
use Rattle.bytes_put_fields.proofs.Writing.{Writing, starts, wrote}
use Rattle.bytes_put_header_start.specs.Fields.{front_fields, count_fields}
use Rattle.bytes_put_header.specs.Fields.{size_fields, period_fields}

-- 40 bytes without cards, 48 with them
pub size_plain : (version : ℕ) → 2 ≤ version → version < 4 → header_size version ≡ 40
unfolding header_size
size_plain version low high = rw (ne_eqb version 4 (λ e. omega (arith, e, high))) (go (eqb version 2) refl)
  where
    go : (b : Bool) → eqb version 2 ≡ b → ◌≡◌ {A = ℕ} (cond (b || eqb version 3) 40 20) 40
    go true e = refl
    go false e = rw (eq-eqb version 3 (omega (arith, eqb-false version 2 e)))

pub size_cards : (version : ℕ) → version ≡ 4 → header_size version ≡ 48
unfolding header_size
size_cards version four = rw (eq-eqb version 4 four)

pub size_least : (version : ℕ) → 2 ≤ version → version ≤ 4 → 40 ≤ header_size version
size_least version low high = go (eqb version 4) refl
  where
    go : (b : Bool) → eqb version 4 ≡ b → 40 ≤ header_size version
    go true e = omega (arith, size_cards version (eqb-true version 4 e))
    go false e = omega (arith, size_plain version low (omega (arith, eqb-false version 4 e)))

module _ (header : Header) where
  abbrev front_in : List Field
  front_in = front_fields header.version header.repeat header.frame_count

  abbrev counts_in : List Field
  counts_in = count_fields header.pool_count header.initial_count header.directory_offset header.initial_start

  abbrev sizes_in : List Field
  sizes_in = size_fields header.frame_start header.total_size (header_size header.version) header.card_count

  abbrev last_in : List Field
  last_in = cond (eqb header.version 4) (period_fields header.frame_period) []

  abbrev pub front : List ℕ
  front = bytes_of_all front_in

  abbrev pub counts : List ℕ
  counts = bytes_of_all counts_in

  abbrev pub sizes : List ℕ
  sizes = bytes_of_all sizes_in

  abbrev pub last : List ℕ
  last = bytes_of_all last_in

  pub header_parts : 2 ≤ header.version → bytes_of_all (header_fields header) ≡ front ++ (counts ++ (sizes ++ last))
  header_parts pooled =
      let is : header_fields header ≡ front_in ++ (counts_in ++ (sizes_in ++ last_in)) = rw (ne_eqb header.version 1 (λ e. omega (arith, e, pooled))) in
      ap bytes_of_all is
      ∙ fields_append front_in (counts_in ++ (sizes_in ++ last_in))
      ∙ ap (λ (l : List ℕ). front ++ l) (fields_append counts_in (sizes_in ++ last_in) ∙ ap (λ (l : List ℕ). counts ++ l) (fields_append sizes_in last_in))

  -- only version 4 has the last part
  pub last_none : header.version < 4 → last ≡ []
  unfolding bytes_of_all
  last_none h = rw (ne_eqb header.version 4 (λ e. omega (arith, e, h)))

  pub last_period : header.version ≡ 4 → last ≡ bytes_of_all (period_fields header.frame_period)
  last_period four = rw (eq-eqb header.version 4 four)

  last_size : 2 ≤ header.version → header.version ≤ 4 → 40 + length last ≡ header_size header.version
  last_size low high = go (eqb header.version 4) refl
    where
      go : (b : Bool) → eqb header.version 4 ≡ b → 40 + length last ≡ header_size header.version
      go true e =
          let four = eqb-true header.version 4 e in
          omega (arith, ap length (last_period four), fields_size_lem (period_fields header.frame_period), size_cards header.version four)
      go false e =
          let less : header.version < 4 = omega (arith, eqb-false header.version 4 e) in
          omega (arith, ap length (last_none less), size_plain header.version low less)

  -- the first three parts are written, one behind the other
  pub three_written : {buffer first second third : List ℕ} → 2 ≤ header.version → header.version ≤ 4 → header_size header.version ≤ length buffer
      → first ≡ put front 0 buffer → second ≡ put counts 12 first → third ≡ put sizes 28 second
      → Writing (bytes_of_all (header_fields header)) 0 buffer last 40 third
  three_written {buffer} {first} {second} {third} low high room a b c =
      let long : length (front ++ (counts ++ (sizes ++ last))) ≡ 40 + length last = simp (length-append, fields_size_lem) (omega arith) in
      let w = starts (front ++ (counts ++ (sizes ++ last))) 0 buffer (omega (arith, last_size low high)) in
      let w' = wrote w front (counts ++ (sizes ++ last)) 12 {place' = 12} refl (fields_size_lem front_in) refl a in
      let w'' = wrote w' counts (sizes ++ last) 16 {place' = 28} refl (fields_size_lem counts_in) refl b in
      rw (header_parts low) (wrote w'' sizes last 12 {place' = 40} refl (fields_size_lem sizes_in) refl c)
