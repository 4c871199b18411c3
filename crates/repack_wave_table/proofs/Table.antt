-- Laws of the table of waves: what the chain of a bucket finds, and what adding a wave makes of it.
use Prim.Native.Nat.{ℕ, zero, suc, ◌+◌, ◌-◌, ◌≤◌, ◌<◌}
use mathlib.Core.Path.{◌≡◌, refl, sym, ap, ◌∙◌}
use mathlib.Core.Bool.{Bool, true, false, cond, not, ◌||◌, true≢false, false≢true, or-true, or-false}
use mathlib.Core.List.{List, [], ◌∷◌, ◌++◌, map}
use native.Mathlib.Nat.{not-suc-le-zero, le_refl}
use native.Mathlib.Numerals.{add-one}
use native.Mathlib.Decide.{ℕ_discrete}
use native.Mathlib.Omega.{arith}
use borrow.Author.Tests.{eq-eqb, ne_eqb, eqb-true, eqb-false, lt-ltb, le-ltb}
use borrow.Author.Count.{below_more}
use lib.Dec.{eqb, ltb}
use lib.ListN.{length, get_or, take, set, replicate, length-set, length-map, length-replicate, get_or-replicate}
use lib.Seq.{take-suc, length-take-le, get_or-set_same, get_or-set_other, take-set-le}
use Rattle.base_format.specs.Bytes.{same_bytes}
use Rattle.base_format.specs.Repack.{is_known, added, place_of}
use Rattle.base_format.proofs.Equal.{same_bytes_lem}
use Rattle.base_format.proofs.Known.{known_snoc, known_place, place_kept, place_new, place_none, place_few}
use Rattle.base_master.specs.Places.{wave_at}
use Rattle.repack_wave_hash.specs.Hash.{bucket_at}
use Rattle.repack_wave_hash.proofs.Hash.{same_bucket, bucket_below}
use Rattle.repack_wave_table.specs.Table.{waves_in, latest, found, Chain, Table, lists_with, Added}

-- ---- a chain

-- the next wave of a chain decides
pub record Stepped (file places : List ℕ) (at i next : ℕ) : Type 0 where
  pub less : next < i
  pub last : latest file places (bucket_at file at) next ≡ next
  pub same : found file places at i ≡ found file places at next

module _ (file places : List ℕ) where
  pub latest_le : (bucket count : ℕ) → latest file places bucket count ≤ count
  unfolding latest
  latest_le bucket zero = omega arith
  latest_le bucket (suc count) = go (latest_le bucket count) (eqb (bucket_at file (get_or places count 0)) bucket)
    where
      go : latest file places bucket count ≤ count → (b : Bool) → cond b (suc count) (latest file places bucket count) ≤ suc count
      go less true = omega arith
      go less false = omega arith

  -- the latest wave of a bucket is the latest up to itself
  pub latest_twice : (bucket count : ℕ) → latest file places bucket (latest file places bucket count) ≡ latest file places bucket count
  unfolding latest
  latest_twice bucket zero = refl
  latest_twice bucket (suc count) = go (latest_twice bucket count) (eqb (bucket_at file (get_or places count 0)) bucket) refl
    where
      go : latest file places bucket (latest file places bucket count) ≡ latest file places bucket count → (b : Bool) → eqb (bucket_at file (get_or places count 0)) bucket ≡ b
          → latest file places bucket (cond b (suc count) (latest file places bucket count)) ≡ cond b (suc count) (latest file places bucket count)
      go twice true e = rw e
      go twice false e = twice

  -- and lies in the bucket
  pub latest_bucket : (bucket count : ℕ) → latest file places bucket (suc count) ≡ suc count → bucket_at file (get_or places count 0) ≡ bucket
  unfolding latest
  latest_bucket bucket count = go (eqb (bucket_at file (get_or places count 0)) bucket) refl
    where
      go : (b : Bool) → eqb (bucket_at file (get_or places count 0)) bucket ≡ b → cond b (suc count) (latest file places bucket count) ≡ suc count → bucket_at file (get_or places count 0) ≡ bucket
      go true e h = eqb-true _ _ e
      go false e h = absurd (omega (arith, h, latest_le bucket count))

  -- what a chain passes over is not what is looked for
  pub found_chain : (at count : ℕ) → found file places at count ≡ found file places at (latest file places (bucket_at file at) count)
  unfolding found latest
  found_chain at zero = refl
  found_chain at (suc count) = go (found_chain at count) (eqb (bucket_at file (get_or places count 0)) (bucket_at file at)) refl (same_bytes (wave_at file (get_or places count 0)) (wave_at file at)) refl
    where
      place : ℕ
      place = get_or places count 0

      go : found file places at count ≡ found file places at (latest file places (bucket_at file at) count)
          → (b : Bool) → eqb (bucket_at file place) (bucket_at file at) ≡ b → (same : Bool) → same_bytes (wave_at file place) (wave_at file at) ≡ same
          → cond same (suc count) (found file places at count) ≡ found file places at (cond b (suc count) (latest file places (bucket_at file at) count))
      go more true e same f = ap (λ (s : Bool). cond s (suc count) (found file places at count)) (sym f)
      go more false e true f = absurd (eqb-false _ _ e (same_bucket file place at f))
      go more false e false f = more

  found_next : (at count : ℕ) → same_bytes (wave_at file (get_or places count 0)) (wave_at file at) ≡ false → found file places at (suc count) ≡ found file places at count
  unfolding found
  found_next at count e = rw e

  found_here : (at count : ℕ) → same_bytes (wave_at file (get_or places count 0)) (wave_at file at) ≡ true → found file places at (suc count) ≡ suc count
  unfolding found
  found_here at count e = rw e

  -- one step of a search along a chain: the wave is found, or the next one of the chain decides
  pub chain_here : (at i : ℕ) → 0 < i → same_bytes (wave_at file (get_or places (i - 1) 0)) (wave_at file at) ≡ true → found file places at i ≡ i
  chain_here at i h e =
      let one : i ≡ suc (i - 1) = omega arith in
      ap (found file places at) one ∙ found_here at (i - 1) e ∙ sym one

  pub chain_step : (next : List ℕ) (at first i : ℕ) → Chain file next places (bucket_at file at) first → 0 < i → i ≤ first → latest file places (bucket_at file at) i ≡ i
      → same_bytes (wave_at file (get_or places (i - 1) 0)) (wave_at file at) ≡ false → Stepped file places at i (get_or next (i - 1) 0)
  chain_step next at first i chain h within last e =
      let b = bucket_at file at in
      let one : i ≡ suc (i - 1) = omega arith in
      let here : bucket_at file (get_or places (i - 1) 0) ≡ b = latest_bucket b (i - 1) (ap (latest file places b) (sym one) ∙ last ∙ one) in
      let is : get_or next (i - 1) 0 ≡ latest file places b (i - 1) = chain.next_are (i - 1) (omega arith) ∙ ap (λ (x : ℕ). latest file places x (i - 1)) here in
      record {
        less = omega (arith, is, latest_le b (i - 1));
        last = rw is (latest_twice b (i - 1));
        same = ap (found file places at) one ∙ found_next at (i - 1) e ∙ found_chain at (i - 1) ∙ ap (found file places at) (sym is);
      }

  -- ---- what is found is what is known

  waves_snoc : (count : ℕ) → count < length places → waves_in file places (suc count) ≡ waves_in file places count ++ (wave_at file (get_or places count 0) ∷ [])
  waves_snoc count h = ap (map (wave_at file)) (take-suc places count 0 h) ∙ map_snoc (take count places) (get_or places count 0)
    where
      map_snoc : (l : List ℕ) (p : ℕ) → map (wave_at file) (l ++ (p ∷ [])) ≡ map (wave_at file) l ++ (wave_at file p ∷ [])
      map_snoc [] p = refl
      map_snoc (x ∷ l) p = ap (λ (m : List (List ℕ)). wave_at file x ∷ m) (map_snoc l p)

-- ---- what is found is what is known

-- the wave is known exactly where something is found
pub found_known : (file places : List ℕ) (at count : ℕ) → count ≤ length places
    → is_known (waves_in file places count) (wave_at file at) ≡ not (eqb (found file places at count) 0)
unfolding found is_known
found_known file places at zero h = refl
found_known file places at (suc count) h =
    let place = get_or places count 0 in
    ap (λ (l : List (List ℕ)). is_known l (wave_at file at)) (waves_snoc file places count h)
    ∙ known_snoc (waves_in file places count) (wave_at file place) (wave_at file at)
    ∙ go (found_known file places at count (omega arith)) (same_bytes (wave_at file place) (wave_at file at))
  where
    go : is_known (waves_in file places count) (wave_at file at) ≡ not (eqb (found file places at count) 0) → (b : Bool)
        → (is_known (waves_in file places count) (wave_at file at) || b) ≡ not (eqb (cond b (suc count) (found file places at count)) 0)
    go more true = or-true (is_known (waves_in file places count) (wave_at file at)) ∙ ap not (sym (ne_eqb (suc count) 0 (λ e. omega arith)))
    go more false = or-false (is_known (waves_in file places count) (wave_at file at)) ∙ more

pub waves_count : (file places : List ℕ) (count : ℕ) → count ≤ length places → length (waves_in file places count) ≡ count
waves_count file places count h = length-map (take count places) (wave_at file) ∙ length-take-le count places h

-- where each wave is new when it is added, what is found is the place of the wave, counted from 1
pub found_place : (file places : List ℕ) (at count : ℕ) → count ≤ length places
    → ((k : ℕ) → k < count → is_known (waves_in file places k) (wave_at file (get_or places k 0)) ≡ false)
    → 0 < found file places at count → found file places at count ≡ suc (place_of (waves_in file places count) (wave_at file at))
unfolding found
found_place file places at zero h fresh some = absurd (not-suc-le-zero some)
found_place file places at (suc count) h fresh some =
    go (found_place file places at count (omega arith) (λ k less. fresh k (omega arith))) (same_bytes (wave_at file place) (wave_at file at)) refl some
    ∙ ap (λ (l : List (List ℕ)). suc (place_of l (wave_at file at))) (sym (waves_snoc file places count h))
  where
    place : ℕ
    place = get_or places count 0

    known : List (List ℕ)
    known = waves_in file places count

    size : length known ≡ count
    size = waves_count file places count (omega arith)

    go : (0 < found file places at count → found file places at count ≡ suc (place_of known (wave_at file at)))
        → (b : Bool) → same_bytes (wave_at file place) (wave_at file at) ≡ b → 0 < cond b (suc count) (found file places at count)
        → cond b (suc count) (found file places at count) ≡ suc (place_of (known ++ (wave_at file place ∷ [])) (wave_at file at))
    go more true e some' =
        let new = ap (is_known known) (sym (same_bytes_lem (wave_at file place) (wave_at file at) e)) ∙ fresh count (omega arith) in
        ap suc (sym (place_new known (wave_at file place) (wave_at file at) new e ∙ size))
    go more false e some' =
        let is = found_known file places at count (omega arith) ∙ ap not (ne_eqb (found file places at count) 0 (λ z. omega (arith, z, some'))) in
        more some' ∙ ap suc (sym (place_kept known (wave_at file place ∷ []) (wave_at file at) is))

-- a wave is known exactly where its place is among the known ones
pub place_known : (known : List (List ℕ)) (bytes : List ℕ) → (b : Bool) → is_known known bytes ≡ b → ltb (place_of known bytes) (length known) ≡ b
place_known known bytes true e = lt-ltb _ _ (known_place known bytes e).0
place_known known bytes false e = le-ltb (place_of known bytes) (length known) (omega (arith, place_none known bytes e))

-- ---- a wave that is added

module _ (file places : List ℕ) (i at : ℕ) where
  latest_set : (bucket count : ℕ) → count ≤ i → latest file (set places i at) bucket count ≡ latest file places bucket count
  unfolding latest
  latest_set bucket zero h = refl
  latest_set bucket (suc count) h =
      rw (get_or-set_other places i count at 0 (λ e. omega arith), latest_set bucket count (omega arith))

  waves_set : (count : ℕ) → count ≤ i → waves_in file (set places i at) count ≡ waves_in file places count
  waves_set count h = ap (map (wave_at file)) (take-set-le count places i at h)

module _ (file heads next places : List ℕ) (count at : ℕ) (table : Table file heads next places count) where
  -- the table with the wave at a place, which is new
  pub added_table : count < 11468 → at + 1280 ≤ length file
      → is_known (waves_in file places count) (wave_at file at) ≡ false
      → Table file (set heads (bucket_at file at) (count + 1)) (set next count (get_or heads (bucket_at file at) 0)) (set places count at) (count + 1)
  unfolding latest
  added_table more here new =
      let room : count < length places = omega (arith, table.places_size) in
      let room' : count < length next = omega (arith, table.next_size) in
      let bucket = bucket_at file at in
      let small : bucket < 16384 = bucket_below file at in
      let now-places = set places count at in
      let now-next = set next count (get_or heads bucket 0) in
      let last : get_or now-places count 0 ≡ at = get_or-set_same places count at 0 room in
      let kept : (k : ℕ) → k < count → get_or now-places k 0 ≡ get_or places k 0 = λ k less. get_or-set_other places count k at 0 (λ e. omega arith) in
      record {
        heads_size = length-set heads bucket (count + 1) ∙ table.heads_size;
        next_size = length-set next count (get_or heads bucket 0) ∙ table.next_size;
        places_size = length-set places count at ∙ table.places_size;
        few = omega arith;
        heads_are = λ b less. ap (λ (n : ℕ). get_or (set heads bucket n) b 0) (add-one count) ∙ head b (ℕ_discrete b bucket) less ∙ rw (add-one count, last, latest_set file places count at b count (le_refl count));
        next_are =
            below_more (λ (k : ℕ). get_or now-next k 0 ≡ latest file now-places (bucket_at file (get_or now-places k 0)) k) count
            (λ k less. rw (get_or-set_other next count k (get_or heads bucket 0) 0 (λ e. omega arith), kept k less, latest_set file places count at (bucket_at file (get_or places k 0)) k (omega arith)) (table.next_are k less))
            (rw (get_or-set_same next count (get_or heads bucket 0) 0 room', last, latest_set file places count at bucket count (le_refl count)) (table.heads_are bucket small));
        inside = below_more (λ (k : ℕ). get_or now-places k 0 + 1280 ≤ length file) count (λ k less. rw (kept k less) (table.inside k less)) (rw last here);
        fresh =
            below_more (λ (k : ℕ). is_known (waves_in file now-places k) (wave_at file (get_or now-places k 0)) ≡ false) count
            (λ k less. rw (waves_set file places count at k (omega arith), kept k less) (table.fresh k less)) (rw (waves_set file places count at count (le_refl count), last) new);
      }
    where
      head : (b : ℕ) → Dec (b ≡ bucket_at file at) → b < 16384
          → get_or (set heads (bucket_at file at) (suc count)) b 0 ≡ cond (eqb (bucket_at file at) b) (suc count) (latest file places b count)
      head b (yes same) less =
          rw (same, get_or-set_same heads (bucket_at file at) (suc count) 0 (omega (arith, bucket_below file at, table.heads_size)), eq-eqb (bucket_at file at) (bucket_at file at) refl)
      head b (no other) less =
          rw (get_or-set_other heads (bucket_at file at) b (suc count) 0 other, ne_eqb (bucket_at file at) b (λ e. other (sym e))) (table.heads_are b less)

  -- and its waves
  pub added_waves : count < 11468 → waves_in file (set places count at) (count + 1) ≡ waves_in file places count ++ (wave_at file at ∷ [])
  added_waves more =
      let room : count < length places = omega (arith, table.places_size) in
      rw (add-one count, waves_snoc file (set places count at) count (rw length-set room), waves_set file places count at count (le_refl count), get_or-set_same places count at 0 room)

  -- the chain of the wave's bucket, and what its search finds
  pub head_few : (bucket : ℕ) → bucket ≡ bucket_at file at → get_or heads bucket 0 ≤ count
  head_few bucket is = rw (is, table.heads_are (bucket_at file at) (bucket_below file at)) (latest_le file places (bucket_at file at) count)

  pub chain_of : (bucket : ℕ) → bucket ≡ bucket_at file at → Chain file next places (bucket_at file at) (get_or heads bucket 0)
  chain_of bucket is =
      let few = head_few bucket is in
      record {
        last = rw (is, table.heads_are (bucket_at file at) (bucket_below file at)) (latest_twice file places (bucket_at file at) count);
        next_are = λ k h. table.next_are k (omega arith);
        inside = λ k h. table.inside k (omega arith);
      }

  pub chain_finds : (bucket : ℕ) → bucket ≡ bucket_at file at → found file places at (get_or heads bucket 0) ≡ found file places at count
  chain_finds bucket is = rw (is, table.heads_are (bucket_at file at) (bucket_below file at)) (sym (found_chain file places at count))

  -- the place of a wave in the table
  pub place_found : (n : ℕ) → found file places at count ≡ suc n → n ≡ place_of (waves_in file places count) (wave_at file at)
  place_found n e =
      let is = found_place file places at count (omega (arith, table.few, table.places_size)) table.fresh (omega arith) in
      omega arith

  pub place_missing : found file places at count ≡ 0 → count ≡ place_of (waves_in file places count) (wave_at file at)
  place_missing e =
      let room : count ≤ length places = omega (arith, table.few, table.places_size) in
      let new : is_known (waves_in file places count) (wave_at file at) ≡ false = found_known file places at count room ∙ rw e in
      sym (place_none (waves_in file places count) (wave_at file at) new ∙ waves_count file places count room)

  -- whether the wave is known, by its place
  known_by_place : (b : Bool) → is_known (waves_in file places count) (wave_at file at) ≡ b → ltb (place_of (waves_in file places count) (wave_at file at)) count ≡ b
  known_by_place b e =
      rw (waves_count file places count (omega (arith, table.few, table.places_size))) at (place_known (waves_in file places count) (wave_at file at) b e)

  pub added_known : (number : ℕ) → number ≡ place_of (waves_in file places count) (wave_at file at) → number < count → Added file heads next places count at heads next places count number
  unfolding added lists_with
  added_known number is less = go (is_known (waves_in file places count) (wave_at file at)) refl
    where
      go : (b : Bool) → is_known (waves_in file places count) (wave_at file at) ≡ b → Added file heads next places count at heads next places count number
      go true e = record { lists_are = rw e; number_is = is; table = table; waves = rw e; more = omega arith }
      go false e = absurd (true≢false (sym (lt-ltb _ _ (rw is at less)) ∙ known_by_place false e))

  pub added_new : (bucket number : ℕ) → bucket ≡ bucket_at file at → number ≡ place_of (waves_in file places count) (wave_at file at) → count ≤ number → count < 11468 → at + 1280 ≤ length file
      → Added file heads next places count at (set heads bucket (count + 1)) (set next count (get_or heads bucket 0)) (set places count at) (count + 1) number
  unfolding added lists_with
  added_new bucket number is numbered none more here = go (is_known (waves_in file places count) (wave_at file at)) refl
    where
      go : (b : Bool) → is_known (waves_in file places count) (wave_at file at) ≡ b
          → Added file heads next places count at (set heads bucket (count + 1)) (set next count (get_or heads bucket 0)) (set places count at) (count + 1) number
      go true e = absurd (false≢true (sym (le-ltb _ _ (rw numbered at none)) ∙ known_by_place true e))
      go false e = record { lists_are = rw (e, is); number_is = numbered; table = rw is (added_table more here e); waves = rw e (added_waves more); more = omega arith }

-- the empty table
pub no_waves : (file : List ℕ) → Table file (replicate 16384 0) (replicate 11468 0) (replicate 11468 0) 0
unfolding latest
no_waves file =
    record {
      heads_size = length-replicate {A = ℕ} 16384 0;
      next_size = length-replicate {A = ℕ} 11468 0;
      places_size = length-replicate {A = ℕ} 11468 0;
      few = omega arith;
      heads_are = λ b less. get_or-replicate 16384 b 0 0 less;
      next_are = λ k less. absurd (not-suc-le-zero less);
      inside = λ k less. absurd (not-suc-le-zero less);
      fresh = λ k less. absurd (not-suc-le-zero less);
    }

-- the number of a wave
pub number_few : (file heads next places : List ℕ) (count at : ℕ) → Table file heads next places count → place_of (waves_in file places count) (wave_at file at) ≤ 11468
number_few file heads next places count at table =
    omega (arith, place_few (waves_in file places count) (wave_at file at), waves_count file places count (omega (arith, table.few, table.places_size)), table.few)
