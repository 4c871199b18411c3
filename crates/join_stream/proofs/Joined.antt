-- Two streams joined: within the limits where 29, 30 and 23 do not apply; what 29 says; the bytes, and their number.
use Prim.Native.Nat.{ℕ, ◌+◌, ◌^◌, ◌<◌, ◌≤◌}
use mathlib.Core.Path.{◌≡◌, refl}
use mathlib.Core.Logic.{◌↔◌, inl}
use mathlib.Core.List.{List, [], ◌∷◌, ◌++◌, map}
use native.Mathlib.Nat.{zero-add}
use native.Mathlib.Omega.{arith}
use lib.Dec.{lit≤}
use lib.ListN.{length, get_or, length-append, length-map, get_or-append}
use lib.Seq.{get_or-append-add}
use Rattle.base_format.specs.declared.operation.Operation.{Operation}
use Rattle.base_format.specs.declared.operation.Operation.TheVariants.{Write, Fill, Copy}
use Rattle.base_format.specs.Bytes.{bytes_of_all}
use Rattle.base_format.specs.Limits.{Each, OperationFits, FrameFits, PoolFits, Limits}
use Rattle.base_format.specs.Pool.{Payload, no_pool}
use Rattle.base_format.specs.Size.{file_limit, pooled_header_size}
use Rattle.base_format.specs.Stream.{Stream}
use Rattle.base_format.specs.Written.{item_bytes, operations_bytes, frames_bytes, directory_bytes, payloads_bytes, cards_bytes, payloads_place, header_in, header_fields, body_bytes, written}
use Rattle.base_format.proofs.Fields.{fields_size_lem}
use Rattle.base_master.proofs.Sections.{payloads_append}
use Rattle.base_round_trip.proofs.Each.{each_map, each_append}
use Rattle.join_stream.specs.Join.{renumbered, put_before, joined, first_count}
use Rattle.join_stream.proofs.Appended.{directory_append, frames_append, put_bytes}
use Rattle.join_stream.proofs.VersionTwo.{VersionTwo, without_cards, opening_within, frames_within, pools_within, two_size}

-- ---- limits

module _ (a b : List Payload) where
  -- the first's operations among more pools
  fits_front : (operation : Operation) → OperationFits 2 [] a operation → OperationFits 2 [] (a ++ b) operation
  fits_front (Write target address value) fits = fits
  fits_front (Fill target address size value) fits = fits
  fits_front (Copy target address pool source size) fits =
      record {
        pooled = fits.pooled;
        exists = fits.exists;
        inside = fits.inside;
        known = simp length-append (omega (arith, fits.known));
        takes = rw (get_or-append a b no_pool pool fits.known) fits.takes;
      }

  -- the second's, renumbered
  fits_behind : (operation : Operation) → OperationFits 2 [] b operation → OperationFits 2 [] (a ++ b) (renumbered (length a) operation)
  fits_behind (Write target address value) fits = fits
  fits_behind (Fill target address size value) fits = fits
  fits_behind (Copy target address pool source size) fits =
      record {
        pooled = fits.pooled;
        exists = fits.exists;
        inside = fits.inside;
        known = simp length-append (omega (arith, fits.known));
        takes = rw (get_or-append-add a b pool no_pool) fits.takes;
      }

  each_front : (operations : List Operation) → Each (OperationFits 2 [] a) operations → Each (OperationFits 2 [] (a ++ b)) operations
  each_front = each_map (OperationFits 2 [] a) (OperationFits 2 [] (a ++ b)) fits_front

  each_behind : (operations : List Operation) → Each (OperationFits 2 [] b) operations
      → Each (OperationFits 2 [] (a ++ b)) (map (renumbered (length a)) operations)
  each_behind [] fits = tt
  each_behind (operation ∷ operations) fits = (fits_behind operation fits.0, each_behind operations fits.1)

  frames_front : (frames : List (List Operation)) → Each (FrameFits 2 [] a) frames → Each (FrameFits 2 [] (a ++ b)) frames
  frames_front [] fits = tt
  frames_front (frame ∷ frames) fits = (record { frame_count = fits.0.frame_count; operations = each_front frame fits.0.operations }, frames_front frames fits.1)

  frames_behind : (frames : List (List Operation)) → Each (FrameFits 2 [] b) frames
      → Each (FrameFits 2 [] (a ++ b)) (map (map (renumbered (length a))) frames)
  frames_behind [] fits = tt
  frames_behind (frame ∷ frames) fits =
      (record { frame_count = rw length-map fits.0.frame_count; operations = each_behind frame fits.0.operations }, frames_behind frames fits.1)

-- the frames with the opening before the first
put_fits : (pools : List Payload) (opening : List Operation) (frames : List (List Operation))
    → Each (OperationFits 2 [] pools) opening → Each (FrameFits 2 [] pools) frames → length opening + length (get_or frames 0 []) < 256 ^ 2
    → Each (FrameFits 2 [] pools) (put_before opening frames)
put_fits pools opening [] o f h = tt
put_fits pools opening (frame ∷ frames) o f h =
    (record { frame_count = simp length-append h; operations = each_append (OperationFits 2 [] pools) opening frame o f.0.operations }, f.1)

pub put_count : (opening : List Operation) (frames : List (List Operation)) → length (put_before opening frames) ≡ length frames
put_count opening [] = refl
put_count opening (frame ∷ frames) = refl

first_mapped : (n : ℕ) (frames : List (List Operation)) → length (get_or (map (map (renumbered n)) frames) 0 []) ≡ length (get_or frames 0 [])
first_mapped n [] = refl
first_mapped n (frame ∷ frames) = length-map frame (renumbered n)

-- two streams that can be joined: of version 2 within the limits, and 29, 30 and 23 do not apply
pub record Joinable (a b : Stream) : Type 0 where
  pub of_first : VersionTwo a
  pub of_second : VersionTwo b
  pub first_count : first_count b ≤ 65535
  pub pool_count : length a.pools + length b.pools ≤ 65536
  pub small : length (written (joined a b)) ≤ file_limit

-- the join of two such streams is within the limits
pub joined_within : (a b : Stream) → Joinable a b → Limits (joined a b)
unfolding joined
joined_within a b j =
    let pools = a.pools ++ b.pools in
    let renumber = map (renumbered (length a.pools)) in
    let frames-a = frames_front a.pools b.pools a.frames (frames_within a j.of_first) in
    let frames-b = frames_behind a.pools b.pools b.frames (frames_within b j.of_second) in
    let opening-b = each_behind a.pools b.pools b.opening (opening_within b j.of_second) in
    let few : length (renumber b.opening) + length (get_or (map renumber b.frames) 0 []) < 256 ^ 2 = rw (length-map, first_mapped) (omega (arith, j.first_count)) in
    let put = put_fits pools (renumber b.opening) (map renumber b.frames) opening-b frames-b few in
    record {
      first_version = lit≤ tt;
      last_version = lit≤ tt;
      period_range = inl refl;
      period_below = λ less. refl;
      card_count = lit≤ tt;
      cards_below = λ less. refl;
      cards_fit = tt;
      pool_count = simp length-append j.pool_count;
      pools_below = λ less. absurd (omega arith);
      pools_fit = each_append (PoolFits 2) a.pools b.pools (pools_within a j.of_first) (pools_within b j.of_second);
      opening_fits = each_front a.pools b.pools a.opening (opening_within a j.of_first);
      some_frame = simp length-append (omega (arith, j.of_first.within.some_frame));
      frames_fit = each_append (FrameFits 2 [] pools) a.frames (put_before (renumber b.opening) (map renumber b.frames)) frames-a put;
      total_size = j.small;
    }

pub joined_two : (a b : Stream) → Joinable a b → VersionTwo (joined a b)
joined_two a b j = record { version_two = unfold joined in refl; within = joined_within a b j }

-- ---- 29

-- no frame has more than 65,535 operations
abbrev pub FramesCounted : List (List Operation) → Type 0
FramesCounted frames = Each (λ (frame : List Operation). length frame ≤ 65535) frames

each_behind_of : {A : Type 0} (P : A → Type 0) (x y : List A) → Each P (x ++ y) → Each P y
each_behind_of P [] y h = h
each_behind_of P (a ∷ x) y h = each_behind_of P x y h.1

counted_map : (n : ℕ) (frames : List (List Operation)) → FramesCounted frames → FramesCounted (map (map (renumbered n)) frames)
counted_map n [] h = tt
counted_map n (frame ∷ frames) h = (rw length-map h.0, counted_map n frames h.1)

counted : (pools : List Payload) (frames : List (List Operation)) → Each (FrameFits 2 [] pools) frames → FramesCounted frames
counted pools [] h = tt
counted pools (frame ∷ frames) h = (omega (arith, h.0.frame_count), counted pools frames h.1)

-- "29, a frame of more than 65,535 operations": of two streams within the limits only one frame can be that
pub frames_counted : (a b : Stream) → VersionTwo a → VersionTwo b → FramesCounted (joined a b).frames ↔ (first_count b ≤ 65535)
unfolding joined
frames_counted a b two two' = (λ h. there b.frames two'.within.some_frame (each_behind_of _ a.frames _ h), back)
  where
    n : ℕ
    n = length a.pools

    put : List (List Operation) → List (List Operation)
    put frames = put_before (map (renumbered n) b.opening) (map (map (renumbered n)) frames)

    there : (frames : List (List Operation)) → 1 ≤ length frames → FramesCounted (put frames) → length b.opening + length (get_or frames 0 []) ≤ 65535
    there [] some h = absurd (omega arith)
    there (frame ∷ frames) some h = simp (length-append, length-map) at h.0

    put_counted : (frames : List (List Operation)) → FramesCounted frames → length b.opening + length (get_or frames 0 []) ≤ 65535 → FramesCounted (put frames)
    put_counted [] h few = tt
    put_counted (frame ∷ frames) h few = (simp (length-append, length-map) few, counted_map n frames h.1)

    back : first_count b ≤ 65535 → FramesCounted (a.frames ++ put b.frames)
    back few =
        each_append (λ (frame : List Operation). length frame ≤ 65535) a.frames (put b.frames) (counted a.pools a.frames (frames_within a two))
        (put_counted b.frames (counted b.pools b.frames (frames_within b two')) few)

-- ---- bytes

-- the frames of the second as they stand in the joined file
abbrev pub second_frames : (a b : Stream) → List (List Operation)
second_frames a b = put_before (map (renumbered (length a.pools)) b.opening) (map (map (renumbered (length a.pools))) b.frames)

-- both directories
abbrev pub both_directories : (a b : Stream) → (start : ℕ) → List ℕ
both_directories a b start = directory_bytes 0 start a.pools ++ directory_bytes (length a.pools) (start + length (payloads_bytes a.pools)) b.pools

-- the joined file, part by part: header, both directories, both pools' payloads, the first's opening and frames, and the second's frames
pub joined_bytes : (a b : Stream)
    → written (joined a b)
    ≡ bytes_of_all (header_fields (header_in (joined a b))) ++ (both_directories a b (payloads_place (joined a b)) ++ ((payloads_bytes a.pools ++ payloads_bytes b.pools)
    ++ (operations_bytes 2 a.opening ++ (frames_bytes 2 a.frames ++ frames_bytes 2 (second_frames a b)))))
unfolding written body_bytes cards_bytes joined
joined_bytes a b =
    let start = payloads_place (joined a b) in
    let directory : directory_bytes 0 start (a.pools ++ b.pools) ≡ both_directories a b start = rw zero-add at (directory_append 0 start a.pools b.pools) in
    λ i. bytes_of_all (header_fields (header_in (joined a b))) ++ (directory i ++ (payloads_append a.pools b.pools i
    ++ (operations_bytes 2 a.opening ++ frames_append 2 a.frames (second_frames a b) i)))

-- a renumbered operation has as many bytes
pub item_renumbered_lem : (n : ℕ) (operation : Operation) → length (item_bytes 2 (renumbered n operation)) ≡ length (item_bytes 2 operation)
unfolding item_bytes
item_renumbered_lem n (Write target address value) = refl
item_renumbered_lem n (Fill target address size value) = refl
item_renumbered_lem n (Copy target address pool source size) = rw (fields_size_lem, fields_size_lem)

pub operations_renumbered : (n : ℕ) (operations : List Operation) → length (operations_bytes 2 (map (renumbered n) operations)) ≡ length (operations_bytes 2 operations)
unfolding operations_bytes
operations_renumbered n [] = refl
operations_renumbered n (operation ∷ operations) = simp (length-append, item_renumbered_lem n operation, operations_renumbered n operations)

pub frames_renumbered_lem : (n : ℕ) (frames : List (List Operation)) → length (frames_bytes 2 (map (map (renumbered n)) frames)) ≡ length (frames_bytes 2 frames)
unfolding frames_bytes
frames_renumbered_lem n [] = refl
frames_renumbered_lem n (frame ∷ frames) = simp (length-append, fields_size_lem, operations_renumbered n frame, frames_renumbered_lem n frames)

pub put_size : (opening : List Operation) (frames : List (List Operation)) → 1 ≤ length frames
    → length (frames_bytes 2 (put_before opening frames)) ≡ length (operations_bytes 2 opening) + length (frames_bytes 2 frames)
unfolding frames_bytes
put_size opening [] some = absurd (omega arith)
put_size opening (frame ∷ frames) some = rw (put_bytes 2 opening frame frames) (simp (length-append, fields_size_lem) (omega arith))

-- "The joined size is both sizes less 40."
pub joined_size : (a b : Stream) → VersionTwo a → VersionTwo b → length (written (joined a b)) + pooled_header_size ≡ length (written a) + length (written b)
unfolding joined
joined_size a b two two' =
    let n = length a.pools in
    let opening = map (renumbered n) b.opening in
    let frames = map (map (renumbered n)) b.frames in
    let payloads : length (payloads_bytes (a.pools ++ b.pools)) ≡ length (payloads_bytes a.pools) + length (payloads_bytes b.pools) = rw (payloads_append, length-append) in
    let all-frames : length (frames_bytes 2 (a.frames ++ second_frames a b)) ≡ length (frames_bytes 2 a.frames) + length (frames_bytes 2 (second_frames a b)) = rw (frames_append, length-append) in
    let joined-long = two_size (joined a b) refl refl in
    let first-long = two_size a two.version_two (without_cards a two) in
    let second-long = two_size b two'.version_two (without_cards b two') in
    let pools = length-append a.pools b.pools in
    let put = put_size opening frames (rw length-map two'.within.some_frame) in
    omega (arith, operations_renumbered n b.opening, frames_renumbered_lem n b.frames)
