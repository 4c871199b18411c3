-- The table of the waves that are known: the place of each one's first use, and chains of the waves that share a bucket.
use Rattle.std.specs.Prelude.{ℕ, zero, suc, ◌+◌, ◌≤◌, ◌<◌, false, cond, List, map, ◌≡◌, eqb, length, get_or, take, set}
use Rattle.base_format.specs.Bytes.{same_bytes}
use Rattle.base_format.specs.Repack.{is_known, added, place_of}
use Rattle.base_format.specs.Size.{wave_records_size}
use Rattle.base_master.specs.Places.{wave_at}
use Rattle.repack_wave_hash.specs.Hash.{bucket_at}

-- the first so many waves of the table
abbrev pub waves_in : (file places : List ℕ) → (count : ℕ) → List (List ℕ)
waves_in file places count = map (wave_at file) (take count places)

-- the latest of the first so many waves that lies in a bucket, counted from 1; 0 if none does
unfoldable pub latest : (file places : List ℕ) → (bucket count : ℕ) → ℕ
latest file places bucket zero = 0
latest file places bucket (suc count) = cond (eqb (bucket_at file (get_or places count 0)) bucket) (suc count) (latest file places bucket count)

-- the latest that has the bytes of the wave at a place
unfoldable pub found : (file places : List ℕ) → (at count : ℕ) → ℕ
found file places at zero = 0
found file places at (suc count) = cond (same_bytes (wave_at file (get_or places count 0)) (wave_at file at)) (suc count) (found file places at count)

-- `heads` has the latest wave of each bucket, and `next` the one before each wave in its bucket, counted from 1
pub record Table (file heads next places : List ℕ) (count : ℕ) : Type 0 where
  pub heads_size : length heads ≡ 16384
  pub next_size : length next ≡ 11468
  pub places_size : length places ≡ 11468
  pub few : count ≤ 11468
  pub heads_are : (b : ℕ) → b < 16384 → get_or heads b 0 ≡ latest file places b count
  pub next_are : (k : ℕ) → k < count → get_or next k 0 ≡ latest file places (bucket_at file (get_or places k 0)) k
  pub inside : (k : ℕ) → k < count → get_or places k 0 + wave_records_size ≤ length file
  pub fresh : (k : ℕ) → k < count → is_known (waves_in file places k) (wave_at file (get_or places k 0)) ≡ false

-- a chain from a wave of a bucket, counted from 1, backward; 0 is its end
pub record Chain (file next places : List ℕ) (bucket first : ℕ) : Type 0 where
  pub last : latest file places bucket first ≡ first
  pub next_are : (k : ℕ) → k < first → get_or next k 0 ≡ latest file places (bucket_at file (get_or places k 0)) k
  pub inside : (k : ℕ) → k < first → get_or places k 0 + wave_records_size ≤ length file

-- the lent lists of a table, all of each, and how many waves are known
pub record Lists : Type 0 where
  pub heads : List ℕ
  pub next : List ℕ
  pub places : List ℕ
  pub count : ℕ

abbrev pub lists : (heads next places : List ℕ) → (count : ℕ) → Lists
lists heads next places count = record { heads = heads; next = next; places = places; count = count }

-- with the wave at a place: a known one changes nothing, and any other stands behind the known ones, at the head of its bucket's chain
unfoldable pub lists_with : (file : List ℕ) → Lists → (at : ℕ) → Lists
lists_with file t at =
    let bucket = bucket_at file at in
    cond (is_known (waves_in file t.places t.count) (wave_at file at)) t
    (lists (set t.heads bucket (t.count + 1)) (set t.next t.count (get_or t.heads bucket 0)) (set t.places t.count at) (t.count + 1))

-- the table after the wave at a place was added, and the wave's number; `lists_are` says all of the lent lists, the rest what follows for the
-- waves
pub record Added (file heads next places : List ℕ) (count at : ℕ) (heads' next' places' : List ℕ) (count' number : ℕ) : Type 0 where
  pub lists_are : lists heads' next' places' count' ≡ lists_with file (lists heads next places count) at
  pub number_is : number ≡ place_of (waves_in file places count) (wave_at file at)
  pub table : Table file heads' next' places' count'
  pub waves : waves_in file places' count' ≡ added (waves_in file places count) (wave_at file at)
  pub more : count' ≤ count + 1
