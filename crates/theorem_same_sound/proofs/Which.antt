-- Which vsyncs some steps complete, by the jumps that were made and by how many vsyncs were completed; and that only the first of a start
-- has the opening.
use Prim.Native.Nat.{ℕ, suc, ◌-◌, ◌≤◌}
use mathlib.Core.Bool.{Bool, true, false, cond}
use mathlib.Core.List.{List, [], ◌∷◌, ◌++◌}
use mathlib.Core.Path.{◌≡◌, refl, sym, ap, ap₂, ◌∙◌}
use native.Mathlib.Omega.{arith}
use Rattle.base_format.specs.Checked.{ok, refused}
use Rattle.base_format.specs.Listener.{completed}
use Rattle.base_format.specs.Writes.{WhichVsync, first, later, vsync_behind}
use Rattle.base_format.specs.Steps.{Answer, of_call, of_jump, call_answers, jumps_from, vsync_of_frame, vsyncs_in_order, completed_from}

-- what holds either way
pub either_way : (P : Bool → Type 0) → P true → P false → (b : Bool) → P b
either_way P when otherwise true = when
either_way P when otherwise false = otherwise

-- THE OPENING COMES FIRST OR NOT AT ALL

-- none of these vsyncs has the opening
abbrev pub OnlyLater : List WhichVsync → Type 0
OnlyLater [] = Unit {0}
OnlyLater (first ∷ vsyncs) = ⊥
OnlyLater (later number ∷ vsyncs) = OnlyLater vsyncs

-- none behind the first has it
abbrev pub LaterBehind : List WhichVsync → Type 0
LaterBehind [] = Unit {0}
LaterBehind (which ∷ vsyncs) = OnlyLater vsyncs

pub only_later : (number : ℕ) (told : List Answer) → OnlyLater (completed_from (later number) told)
unfolding completed_from
only_later number [] = tt
only_later number (of_call (refused n place) ∷ more) = only_later number more
only_later number (of_call (ok answer) ∷ more) =
    either_way (λ (done : Bool). OnlyLater (cond done (later number ∷ completed_from (later (suc number)) more) (completed_from (later number) more)))
    (only_later (suc number) more) (only_later number more) answer.complete
only_later number (of_jump frame (refused n place) ∷ more) = only_later number more
only_later number (of_jump frame (ok next) ∷ more) = only_later (frame - 1) more

later_tail : (vsyncs : List WhichVsync) → OnlyLater vsyncs → LaterBehind vsyncs
later_tail [] h = tt
later_tail (first ∷ vsyncs) h = absurd h
later_tail (later number ∷ vsyncs) h = h

pub later_behind : (told : List Answer) → LaterBehind (completed_from first told)
unfolding completed_from
later_behind [] = tt
later_behind (of_call (refused n place) ∷ more) = later_behind more
later_behind (of_call (ok answer) ∷ more) =
    either_way (λ (done : Bool). LaterBehind (cond done (first ∷ completed_from (later 1) more) (completed_from first more))) (only_later 1 more) (later_behind more) answer.complete
later_behind (of_jump frame (refused n place) ∷ more) = later_behind more
later_behind (of_jump frame (ok next) ∷ more) = later_tail (completed_from (vsync_of_frame frame) more) (only_later (frame - 1) more)

-- BY THE JUMPS AND THE COUNT ALONE

-- the vsyncs up to `count` more, where k are completed and these jumps are to come
abbrev by_jumps : WhichVsync → (k : ℕ) → List (ℕ × ℕ) → (count : ℕ) → List WhichVsync
by_jumps which k [] count = vsyncs_in_order which count
by_jumps which k ((at, frame) ∷ jumps) count = vsyncs_in_order which (at - k) ++ by_jumps (vsync_of_frame frame) at jumps (count - (at - k))

-- the next jump is made after as many vsyncs as are completed, or more
abbrev FromOn : (k : ℕ) → List (ℕ × ℕ) → Type 0
FromOn k [] = Unit {0}
FromOn k ((at, frame) ∷ jumps) = k ≤ at

from_before : (k : ℕ) (jumps : List (ℕ × ℕ)) → FromOn (suc k) jumps → FromOn k jumps
from_before k [] h = tt
from_before k ((at, frame) ∷ jumps) h = omega arith

from_on : (k : ℕ) (told : List Answer) → FromOn k (jumps_from k told)
unfolding jumps_from
from_on k [] = tt
from_on k (of_call (refused n place) ∷ more) = from_on k more
from_on k (of_call (ok answer) ∷ more) =
    either_way (λ (done : Bool). FromOn k (jumps_from (cond done (suc k) k) more)) (from_before k (jumps_from (suc k) more) (from_on (suc k) more)) (from_on k more) answer.complete
from_on k (of_jump frame (refused n place) ∷ more) = from_on k more
from_on k (of_jump frame (ok next) ∷ more) = omega arith

-- one more vsync is completed
one_more : (which : WhichVsync) (k : ℕ) (jumps : List (ℕ × ℕ)) (count : ℕ) → FromOn (suc k) jumps → by_jumps which k jumps (suc count) ≡ which ∷ by_jumps (vsync_behind which) (suc k) jumps count
unfolding vsyncs_in_order
one_more which k [] count h = refl
one_more which k ((at, frame) ∷ jumps) count h =
    let here : at - k ≡ suc (at - suc k) = omega arith in
    let left : suc count - (at - k) ≡ count - (at - suc k) = omega arith in
    ap₂ (λ (n m : ℕ). vsyncs_in_order which n ++ by_jumps (vsync_of_frame frame) at jumps m) here left

-- a jump is made
one_jump : (which : WhichVsync) (k frame : ℕ) (jumps : List (ℕ × ℕ)) (count : ℕ) → by_jumps which k ((k, frame) ∷ jumps) count ≡ by_jumps (vsync_of_frame frame) k jumps count
unfolding vsyncs_in_order
one_jump which k frame jumps count =
    let none : k - k ≡ 0 = omega arith in
    let left : count - (k - k) ≡ count = omega arith in
    ap₂ (λ (n m : ℕ). vsyncs_in_order which n ++ by_jumps (vsync_of_frame frame) k jumps m) none left

vsyncs_by : (which : WhichVsync) (k : ℕ) (told : List Answer) → completed_from which told ≡ by_jumps which k (jumps_from k told) (completed (call_answers told))
unfolding completed_from vsyncs_in_order jumps_from call_answers completed
vsyncs_by which k [] = refl
vsyncs_by which k (of_call (refused n place) ∷ more) = vsyncs_by which k more
vsyncs_by which k (of_call (ok answer) ∷ more) =
    let count = completed (call_answers more) in
    let one = ap (λ (l : List WhichVsync). which ∷ l) (vsyncs_by (vsync_behind which) (suc k) more) ∙ sym (one_more which k (jumps_from (suc k) more) count (from_on (suc k) more)) in
    either_way
    (λ (done : Bool). cond done (which ∷ completed_from (vsync_behind which) more) (completed_from which more) ≡ by_jumps which k (jumps_from (cond done (suc k) k) more) (cond done (suc count) count))
    one (vsyncs_by which k more) answer.complete
vsyncs_by which k (of_jump frame (refused n place) ∷ more) = vsyncs_by which k more
vsyncs_by which k (of_jump frame (ok next) ∷ more) =
    vsyncs_by (vsync_of_frame frame) k more ∙ sym (one_jump which k frame (jumps_from k more) (completed (call_answers more)))

-- players that jump alike and complete equally many vsyncs complete the same ones
pub same_vsyncs : (told told' : List Answer) → jumps_from 0 told ≡ jumps_from 0 told'
    → completed (call_answers told) ≡ completed (call_answers told') → completed_from first told ≡ completed_from first told'
same_vsyncs told told' jumps counts = vsyncs_by first 0 told ∙ ap₂ (by_jumps first 0) jumps counts ∙ sym (vsyncs_by first 0 told')
