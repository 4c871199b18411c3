-- The wave sources on the way through a vsync: those when it begins, changed by the operations whose first write is made.
use Prim.Native.Nat.{ℕ, ◌+◌, ◌-◌, ◌≤◌, ◌<◌}
use mathlib.Core.Bool.{Bool, true, false, cond}
use mathlib.Core.List.{List, [], ◌∷◌, ◌++◌, append-nil, append_assoc}
use mathlib.Core.Path.{◌≡◌, refl, sym, ap, ap₂, ◌∙◌}
use native.Mathlib.Nat.{zero-add}
use native.Mathlib.Omega.{arith}
use borrow.Author.Tests.{ne_eqb}
use lib.Dec.{eqb}
use lib.ListN.{length, drop, replicate, length-append, length-drop}
use Rattle.base_format.specs.declared.operation.Operation.{Operation}
use Rattle.base_format.specs.declared.operation.WriteRecord.{WriteRecord}
use Rattle.base_format.specs.declared.player.WaveSource.{WaveSource}
use Rattle.base_format.specs.Header.{header_of}
use Rattle.base_format.specs.Player.{waves_by}
use Rattle.base_format.specs.State.{no_wave}
use Rattle.base_format.specs.Stream.{Stream}
use Rattle.base_format.specs.WaveSources.{begun}
use Rattle.base_format.specs.Writes.{WhichVsync, first, vsync_behind, writes_of, writes_of_all, operations_in}
use Rattle.base_format.proofs.Writes.{writes_append}

-- OPERATIONS

-- the wave sources once an operation's first write is made, by the file's own directory
abbrev pub waves_on : List ℕ → Operation → List WaveSource → List WaveSource
waves_on file operation waves = waves_by file (header_of file).directory_offset operation waves

-- and once operations are done, one after the other
unfoldable pub waves_by_all : List ℕ → List Operation → List WaveSource → List WaveSource
waves_by_all file [] waves = waves
waves_by_all file (operation ∷ more) waves = waves_by_all file more (waves_on file operation waves)

pub waves_append : (file : List ℕ) (a b : List Operation) (waves : List WaveSource) → waves_by_all file b (waves_by_all file a waves) ≡ waves_by_all file (a ++ b) waves
unfolding waves_by_all
waves_append file [] b waves = refl
waves_append file (operation ∷ a) b waves = waves_append file a b (waves_on file operation waves)

-- WHAT A VSYNC BEGINS WITH

-- which vsync it is, and the wave sources before it
pub record Due : Type 0 where
  pub which : WhichVsync
  pub waves : List WaveSource

-- what the vsync behind it begins with
abbrev pub next_due : List ℕ → Stream → Due → Due
next_due file s d = record { which = vsync_behind d.which; waves = waves_by_all file (operations_in s d.which) d.waves }

-- what the first vsync of a start begins with
abbrev pub start_due : Due
start_due = record { which = first; waves = replicate 16 no_wave }

-- WRITES OF AN OPERATION

-- of the first operation so many writes are done, and not all of them
abbrev pub Fits : Stream → (writes : ℕ) → List Operation → Type 0
Fits s writes [] = writes ≡ 0
Fits s writes (operation ∷ more) = writes < length (writes_of s.pools operation)

-- that operation, where one of its writes is done
abbrev pub half_done : (writes : ℕ) → List Operation → List Operation
half_done writes [] = []
half_done writes (operation ∷ more) = cond (eqb writes 0) [] (operation ∷ [])

half_none : (operations : List Operation) → half_done 0 operations ≡ []
half_none [] = refl
half_none (operation ∷ more) = refl

-- each has a write
abbrev pub AllSome : Stream → List Operation → Type 0
AllSome s [] = Unit {0}
AllSome s (operation ∷ more) = (0 < length (writes_of s.pools operation)) × AllSome s more

some_more : (s : Stream) (done : List Operation) (operation : Operation) → AllSome s done → 0 < length (writes_of s.pools operation) → AllSome s (done ++ (operation ∷ []))
some_more s [] operation all some = (some, tt)
some_more s (one ∷ done) operation all some = (all.0, some_more s done operation all.1 some)

-- THE WAY

-- the operations of a vsync, those behind the part that is playing, and the wave sources when the vsync begins
pub record Course : Type 0 where
  pub all : List Operation
  pub later : List Operation
  pub first : List WaveSource

abbrev pub course_of : Stream → Due → (later : List Operation) → Course
course_of s d later = record { all = operations_in s d.which; later = later; first = d.waves }

-- of the part that is playing some operations are left, of the first of which so many writes are done
pub record Along (file : List ℕ) (s : Stream) (c : Course) (writes : ℕ) (operations : List Operation) (waves : List WaveSource) : Type 0 where
  pub done : List Operation
  pub is : c.all ≡ done ++ (operations ++ c.later)
  pub some : AllSome s done
  pub sources : waves ≡ waves_by_all file (done ++ half_done writes operations) c.first

-- where the part begins
pub along_first : (file : List ℕ) (s : Stream) (c : Course) (operations : List Operation) (waves : List WaveSource) → c.all ≡ operations ++ c.later → waves ≡ c.first
    → Along file s c 0 operations waves
unfolding waves_by_all
along_first file s c operations waves is e = record { done = []; is = is; some = tt; sources = rw (half_none operations) e }

module _ (file : List ℕ) (s : Stream) (c : Course) (writes : ℕ) (operation : Operation) (more : List Operation) (waves : List WaveSource) (a : Along file s c writes (operation ∷ more) waves) where
  -- the wave sources after a write of the operation
  abbrev after : List WaveSource
  after = cond (eqb writes 0) (waves_on file operation waves) waves

  with_it : after ≡ waves_by_all file (a.done ++ (operation ∷ [])) c.first
  unfolding waves_by_all
  with_it = go (eqb writes 0) a.sources
    where
      go : (b : Bool) → waves ≡ waves_by_all file (a.done ++ cond b [] (operation ∷ [])) c.first
          → cond b (waves_on file operation waves) waves ≡ waves_by_all file (a.done ++ (operation ∷ [])) c.first
      go true e =
          ap (waves_on file operation) (e ∙ ap (λ (l : List Operation). waves_by_all file l c.first) (append-nil a.done)) ∙ waves_append file a.done (operation ∷ []) c.first
      go false e = e

  -- more of its writes are done, and not all
  pub along_within : (done : ℕ) → 0 < done → Along file s c done (operation ∷ more) after
  along_within done some =
      let begun : eqb done 0 ≡ false = ne_eqb done 0 (λ (e : done ≡ 0). omega arith) in
      record { done = a.done; is = a.is; some = a.some; sources = rw begun with_it }

  -- all of them are
  pub along_onward : 0 < length (writes_of s.pools operation) → Along file s c 0 more after
  along_onward some =
      let none-half : a.done ++ (operation ∷ []) ++ half_done 0 more ≡ a.done ++ (operation ∷ []) =
      ap (λ (l : List Operation). a.done ++ (operation ∷ []) ++ l) (half_none more) ∙ append-nil (a.done ++ (operation ∷ [])) in
      record {
        done = a.done ++ (operation ∷ []);
        is = a.is ∙ sym (append_assoc a.done (operation ∷ []) (more ++ c.later));
        some = some_more s a.done operation a.some some;
        sources = with_it ∙ ap (λ (l : List Operation). waves_by_all file l c.first) (sym none-half);
      }

-- the part is done, and the next one begins
pub along_later : (file : List ℕ) (s : Stream) (d : Due) (later : List Operation) (writes : ℕ) (waves : List WaveSource) → Along file s (course_of s d later) writes [] waves
    → Along file s (course_of s d []) 0 later waves
along_later file s d later writes waves a =
    record {
      done = a.done;
      is = a.is ∙ ap (λ (l : List Operation). a.done ++ l) (sym (append-nil later));
      some = a.some;
      sources = a.sources ∙ ap (λ (l : List Operation). waves_by_all file (a.done ++ l) d.waves) (sym (half_none later));
    }

-- the last part is done
pub along_whole : (file : List ℕ) (s : Stream) (d : Due) (writes : ℕ) (waves : List WaveSource) → Along file s (course_of s d []) writes [] waves → waves ≡ (next_due file s d).waves
along_whole file s d writes waves a = a.sources ∙ ap (λ (l : List Operation). waves_by_all file l d.waves) (sym a.is)

-- AT EVERY MOMENT

pub begun_none : (s : Stream) (operations : List Operation) → begun s.pools 0 operations ≡ []
unfolding begun
begun_none s [] = refl
begun_none s (operation ∷ more) = refl

begun_through : (s : Stream) (done more : List Operation) (n : ℕ) → AllSome s done → begun s.pools (length (writes_of_all s.pools done) + n) (done ++ more) ≡ done ++ begun s.pools n more
unfolding begun writes_of_all
begun_through s [] more n all = rw (zero-add n)
begun_through s (operation ∷ done) more n all =
    let count = length-append (writes_of s.pools operation) (writes_of_all s.pools done) in
    let here : ℕ = length (writes_of s.pools operation ++ writes_of_all s.pools done) + n in
    let some : eqb here 0 ≡ false = ne_eqb here 0 (λ (e : here ≡ 0). omega (arith, count, all.0)) in
    let rest : length (writes_of s.pools operation ++ writes_of_all s.pools done) + n - length (writes_of s.pools operation) ≡ length (writes_of_all s.pools done) + n = omega (arith, count) in
    rw (some, rest, begun_through s done more n all.1)

begun_half : (s : Stream) (writes : ℕ) (operations later : List Operation) → Fits s writes operations → begun s.pools writes (operations ++ later) ≡ half_done writes operations
unfolding begun
begun_half s writes [] later fits = rw (fits, begun_none s later)
begun_half s writes (operation ∷ more) later fits =
    let rest : writes - length (writes_of s.pools operation) ≡ 0 = omega arith in
    rw (rest, begun_none s (more ++ later))

-- the wave sources are those when the vsync begins, changed by the operations that are begun
pub along_begun : (file : List ℕ) (s : Stream) (d : Due) (later : List Operation) (writes n : ℕ) (operations : List Operation) (waves : List WaveSource)
    → (a : Along file s (course_of s d later) writes operations waves) → Fits s writes operations → n ≡ length (writes_of_all s.pools a.done) + writes
    → waves ≡ waves_by_all file (begun s.pools n (operations_in s d.which)) d.waves
along_begun file s d later writes n operations waves a fits e =
    let those : begun s.pools n (operations_in s d.which) ≡ a.done ++ half_done writes operations =
    ap₂ (begun s.pools) e a.is ∙ begun_through s a.done (operations ++ later) writes a.some ∙ ap (λ (l : List Operation). a.done ++ l) (begun_half s writes operations later fits) in
    a.sources ∙ ap (λ (l : List Operation). waves_by_all file l d.waves) (sym those)

fitting : (s : Stream) (writes : ℕ) (operations : List Operation) → Fits s writes operations → writes ≤ length (writes_of_all s.pools operations)
unfolding writes_of_all
fitting s writes [] fits = omega arith
fitting s writes (operation ∷ more) fits = omega (arith, length-append (writes_of s.pools operation) (writes_of_all s.pools more))

-- how many writes those are
pub along_made : (file : List ℕ) (s : Stream) (d : Due) (later : List Operation) (writes n : ℕ) (operations : List Operation) (waves : List WaveSource)
    → (a : Along file s (course_of s d later) writes operations waves) → Fits s writes operations
    → n + (length (drop writes (writes_of_all s.pools operations)) + length (writes_of_all s.pools later)) ≡ length (writes_of_all s.pools (operations_in s d.which))
    → n ≡ length (writes_of_all s.pools a.done) + writes
along_made file s d later writes n operations waves a fits e =
    let wo : List Operation → List WriteRecord = writes_of_all s.pools in
    let parted : length (wo (operations_in s d.which)) ≡ length (wo a.done) + (length (wo operations) + length (wo later)) =
    ap (λ (l : List Operation). length (wo l)) a.is ∙ ap length (writes_append s.pools a.done (operations ++ later)) ∙ length-append (wo a.done) (wo (operations ++ later))
    ∙ ap (λ (m : ℕ). length (wo a.done) + m) (ap length (writes_append s.pools operations later) ∙ length-append (wo operations) (wo later)) in
    omega (arith, parted, length-drop writes (wo operations), fitting s writes operations fits)
