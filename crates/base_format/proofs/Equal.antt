-- Equal by a test is equal, and each thing is equal to itself by the test; and what a list of writes in two parts comes to.
use Prim.Native.Nat.{ℕ, zero, suc}
use mathlib.Core.Bool.{Bool, true, false, cond, beq, false≢true}
use mathlib.Core.List.{List, [], ◌∷◌, ◌++◌}
use mathlib.Core.Path.{◌≡◌, refl, ap, ap₂}
use native.Mathlib.Omega.{arith}
use borrow.Author.Tests.{eq-eqb, eqb-true}
use lib.Dec.{ltb, eqb}
use lib.ListN.{length, get_or, set}
use Rattle.base_format.specs.declared.operation.Operation.{Operation}
use Rattle.base_format.specs.declared.operation.WriteRecord.{WriteRecord}
use Rattle.base_format.specs.Bytes.{same_bytes}
use Rattle.base_format.specs.Compare.{same_write, same_writes, core_writes, played, same_frames}
use Rattle.base_format.specs.Pool.{Payload}
use Rattle.base_format.specs.Writes.{writes_of_all}
use Rattle.base_format.proofs.Checks.{and_true}

pub same_bool : (a b : Bool) → beq a b ≡ true → a ≡ b
same_bool true true h = refl
same_bool true false h = absurd (false≢true h)
same_bool false true h = absurd (false≢true h)
same_bool false false h = refl

pub same_bytes_lem : (xs ys : List ℕ) → same_bytes xs ys ≡ true → xs ≡ ys
same_bytes_lem [] [] h = refl
same_bytes_lem [] (y ∷ ys) h = absurd (false≢true h)
same_bytes_lem (x ∷ xs) [] h = absurd (false≢true h)
same_bytes_lem (x ∷ xs) (y ∷ ys) h =
    let both = and_true _ _ h in
    ap₂ ◌∷◌ (eqb-true x y both.0) (same_bytes_lem xs ys both.1)

pub same_write_lem : (a b : WriteRecord) → same_write a b ≡ true → a ≡ b
same_write_lem a b h =
    let outer = and_true _ _ h in
    let inner = and_true _ _ outer.0 in
    let t : a.target ≡ b.target = eqb-true _ _ inner.0 in
    let d : a.address ≡ b.address = eqb-true _ _ inner.1 in
    let v : a.value ≡ b.value = eqb-true _ _ outer.1 in
    λ i. record { target = t i; address = d i; value = v i }

pub same_writes_lem : (xs ys : List WriteRecord) → same_writes xs ys ≡ true → xs ≡ ys
unfolding same_writes
same_writes_lem [] [] h = refl
same_writes_lem [] (b ∷ ys) h = absurd (false≢true h)
same_writes_lem (a ∷ xs) [] h = absurd (false≢true h)
same_writes_lem (a ∷ xs) (b ∷ ys) h =
    let both = and_true _ _ h in
    ap₂ ◌∷◌ (same_write_lem a b both.0) (same_writes_lem xs ys both.1)

-- equally many frames, and each frame's writes agree
pub same_count : (p p' : List Payload) (fs gs : List (List Operation)) → same_frames p p' fs gs ≡ true → length fs ≡ length gs
unfolding same_frames
same_count p p' [] [] h = refl
same_count p p' [] (g ∷ gs) h = absurd (false≢true h)
same_count p p' (f ∷ fs) [] h = absurd (false≢true h)
same_count p p' (f ∷ fs) (g ∷ gs) h = ap suc (same_count p p' fs gs (and_true (same_writes (writes_of_all p f) (writes_of_all p' g)) (same_frames p p' fs gs) h).1)

pub same_frame : (p p' : List Payload) (fs gs : List (List Operation)) (k : ℕ) → same_frames p p' fs gs ≡ true → writes_of_all p (get_or fs k []) ≡ writes_of_all p' (get_or gs k [])
unfolding same_frames writes_of_all
same_frame p p' [] [] k h = refl
same_frame p p' [] (g ∷ gs) k h = absurd (false≢true h)
same_frame p p' (f ∷ fs) [] k h = absurd (false≢true h)
same_frame p p' (f ∷ fs) (g ∷ gs) zero h = same_writes_lem _ _ (and_true (same_writes (writes_of_all p f) (writes_of_all p' g)) (same_frames p p' fs gs) h).0
same_frame p p' (f ∷ fs) (g ∷ gs) (suc k) h = same_frame p p' fs gs k (and_true (same_writes (writes_of_all p f) (writes_of_all p' g)) (same_frames p p' fs gs) h).1

pub bool_self : (b : Bool) → beq b b ≡ true
bool_self true = refl
bool_self false = refl

pub bytes_self : (bytes : List ℕ) → same_bytes bytes bytes ≡ true
bytes_self [] = refl
bytes_self (b ∷ bytes) = rw (eq-eqb b b refl, bytes_self bytes)

pub writes_self : (ws : List WriteRecord) → same_writes ws ws ≡ true
unfolding same_writes
writes_self [] = refl
writes_self (w ∷ ws) = rw (eq-eqb w.target w.target refl, eq-eqb w.address w.address refl, eq-eqb w.value w.value refl, writes_self ws)

-- frames of which each writes the same agree
pub frames_same : (p p' : List Payload) (fs gs : List (List Operation)) → length fs ≡ length gs
    → ((k : ℕ) → writes_of_all p (get_or fs k []) ≡ writes_of_all p' (get_or gs k [])) → same_frames p p' fs gs ≡ true
unfolding same_frames
frames_same p p' [] [] count each = refl
frames_same p p' [] (g ∷ gs) count each = absurd (omega arith)
frames_same p p' (f ∷ fs) [] count each = absurd (omega arith)
frames_same p p' (f ∷ fs) (g ∷ gs) count each =
    rw (each 0, writes_self (writes_of_all p' g)) (frames_same p p' fs gs (omega arith) (λ k. each (suc k)))

pub core_append : (a b : List WriteRecord) → core_writes (a ++ b) ≡ core_writes a ++ core_writes b
unfolding core_writes
core_append [] b = refl
core_append (w ∷ a) b = rw (core_append a b) (go (ltb w.target 2))
  where
    go : (core : Bool) → cond core (w ∷ (core_writes a ++ core_writes b)) (core_writes a ++ core_writes b) ≡ cond core (w ∷ core_writes a) (core_writes a) ++ core_writes b
    go true = refl
    go false = refl

pub played_append : (memory : List ℕ) (a b : List WriteRecord) → played memory (a ++ b) ≡ played (played memory a) b
unfolding played
played_append memory [] b = refl
played_append memory (w ∷ a) b = played_append (cond (eqb w.target 2) (set memory w.address w.value) memory) a b
