-- What the comparison answers, by what is known of the two files and the lengths of the images.
use Prim.Native.Nat.{ℕ, ◌≤◌, ◌<◌}
use mathlib.Core.Path.{◌≡◌, refl, sym, ap, ap₂, subst, ◌∙◌}
use mathlib.Core.Bool.{Bool, true, false}
use mathlib.Core.List.{List, ◌++◌}
use native.Mathlib.Omega.{arith}
use borrow.Author.Tests.{lt-ltb, le-ltb}
use lib.Dec.{ltb}
use lib.ListN.{length, drop, replicate, length-replicate}
use Rattle.std.specs.Prelude.{Result, Ok, Err, MatchResult}
use Rattle.std.specs.Result.{IsErrAnd}
use Rattle.base_format.specs.declared.header.Header.{Header}
use Rattle.base_format.specs.declared.rule.Refusal.{Refusal}
use Rattle.base_format.specs.declared.operation.WriteRecord.{WriteRecord}
use Rattle.base_format.specs.Checked.{Checked, ok, refused, refuse}
use Rattle.base_format.specs.Compare.{Compared, agreed, refused_file, in_file, read_version, compared, agree, played, image_of, image_after}
use Rattle.base_format.specs.Header.{header_of}
use Rattle.base_format.specs.Lent.{stored}
use Rattle.base_format.specs.Rule.{refusal, answer_of}
use Rattle.base_format.specs.Size.{pcm_size}
use Rattle.base_format.specs.Stream.{Stream, read}
use Rattle.base_format.specs.Writes.{opening_writes}
use Rattle.base_format.proofs.Accepted.{Accepted, accepted}
use Rattle.base_master.proofs.Master.{IsMaster, is_master}
use Rattle.compare_image_bytes.proofs.Image.{played_length}
use Rattle.compare_accepted.specs.Accepted.{FramesWithin, master_drawn, other_drawn, agree_by, Drawn}
use Rattle.check_version.specs.Answer.{version_header}
use Rattle.check_version.proofs.Answers.{Has, has, gone}
use Rattle.compare.specs.declared.whole.CompareError.{CompareError}
use Rattle.compare.specs.Answer.{compared_of, ComparedWith}
use Rattle.compare_accepted.proofs.Streams.{agree_is, master_image, other_image_lem}

-- THE ANSWER

-- a refusal writes nothing
pub image_stays : (answer : Compared) (found : Checked Stream) (image : List ℕ) (file number place : ℕ) → answer ≡ refused_file file number place → image_after answer found image ≡ image
unfolding image_after
image_stays answer found image file number place e = ap (λ (x : Compared). image_after x found image) e

-- so it is the answer, and both images stay
pub refused_with : (master other image image' : List ℕ) (answer : Compared) (file number place : ℕ) → answer ≡ refused_file file number place
    → compared master other (length image) (length image') ≡ refused_file file number place → ComparedWith answer master other image image' image image'
refused_with master other image image' answer file number place is e =
    (is ∙ sym e, sym (image_stays _ (read master) image _ _ _ e), sym (image_stays _ (read other) image' _ _ _ e))

-- the comparison behind a file that was read
abbrev rest : Stream → Checked Stream → Bool → Bool → Compared
rest s r short short' = in_file 2 r λ s'. in_file 1 (refuse 24 0 short) λ _. in_file 2 (refuse 24 0 short') λ _. agreed (agree s s')

module _ (master other : List ℕ) (image image' : ℕ) where
  abbrev whole_rest : Checked Stream → Compared
  whole_rest found = in_file 1 found λ s. rest s (read_version 2 other) (ltb image pcm_size) (ltb image' pcm_size)

  pub master_refused : (number place : ℕ) → version_header 1 master ≡ refused number place → compared master other image image' ≡ refused_file 1 number place
  unfolding compared
  master_refused number place e = ap whole_rest (gone 1 master number place e)

  behind_master : (s : Stream) → read_version 1 master ≡ ok s → compared master other image image' ≡ rest s (read_version 2 other) (ltb image pcm_size) (ltb image' pcm_size)
  unfolding compared
  behind_master s e = ap whole_rest e

  pub other_refused : (header : Header) → Has 1 master header → (number place : ℕ) → version_header 2 other ≡ refused number place → compared master other image image' ≡ refused_file 2 number place
  other_refused header m number place e =
      behind_master m.stream m.here ∙ ap (λ (r : Checked Stream). rest m.stream r (ltb image pcm_size) (ltb image' pcm_size)) (gone 2 other number place e)

  module _ (header header' : Header) (m : Has 1 master header) (o : Has 2 other header') where
    behind_both : (short short' : Bool) → ltb image pcm_size ≡ short → ltb image' pcm_size ≡ short' → compared master other image image' ≡ rest m.stream (ok o.stream) short short'
    behind_both short short' e e' =
        behind_master m.stream m.here
        ∙ ap (λ (r : Checked Stream). rest m.stream r (ltb image pcm_size) (ltb image' pcm_size)) o.here
        ∙ ap₂ (rest m.stream (ok o.stream)) e e'

    master_short : image < pcm_size → compared master other image image' ≡ refused_file 1 24 0
    master_short h = behind_both true (ltb image' pcm_size) (lt-ltb image pcm_size h) refl

    other_short : pcm_size ≤ image → image' < pcm_size → compared master other image image' ≡ refused_file 2 24 0
    other_short h h' = behind_both false true (le-ltb image pcm_size h) (lt-ltb image' pcm_size h')

    both_agreed : pcm_size ≤ image → pcm_size ≤ image' → compared master other image image' ≡ agreed (agree m.stream o.stream)
    both_agreed h h' = behind_both false false (le-ltb image pcm_size h) (le-ltb image' pcm_size h')

-- WHAT A CHECK'S ANSWER SAYS BEHIND `map_err`

pub told_ok : (Q : Refusal → CompareError → Type 0) {is : Checked Header} (r : Result Header Refusal) (m : Result Header CompareError) (x : Header) → answer_of r ≡ is
    → MatchResult r (λ (y : Header). m ≡ Ok y) (λ (e : Refusal). IsErrAnd m (Q e)) → m ≡ Ok x → is ≡ ok x
told_ok Q (Ok y) m x e h w = let same : y ≡ x = cc in sym e ∙ ap ok same
told_ok Q (Err why) m x e h w = absurd (rw w at h)

pub told_err : (Q : Refusal → CompareError → Type 0) {is : Checked Header} (r : Result Header Refusal) (m : Result Header CompareError) (y : CompareError) → answer_of r ≡ is
    → MatchResult r (λ (x : Header). m ≡ Ok x) (λ (e : Refusal). IsErrAnd m (Q e)) → m ≡ Err y → (why : Refusal) × (is ≡ refusal why) × Q why y
told_err Q (Ok x) m y e h w = absurd (let z : ◌≡◌ {A = ℕ} 0 1 = cc in omega arith)
told_err Q (Err why) m y e h w = (why, sym e, rw w at h)

pub passed_error : (answer : Result Bool CompareError) (y z : CompareError) → IsErrAnd answer (λ (e : CompareError). e ≡ y) → y ≡ z → compared_of answer ≡ compared_of (Err z)
passed_error (Ok b) y z h e = absurd h
passed_error (Err x) y z h e = rw (h, e)

-- TWO ACCEPTED FILES

abbrev other_accepted : (other : List ℕ) (header : Header) → (o : Has 2 other header) → Accepted other header o.stream
other_accepted other header o = subst (λ (h : Header). Accepted other h o.stream) o.header_is (accepted other o.stream o.reads).0

-- two files that are accepted and have their versions
abbrev Headers : (master other : List ℕ) → Header → Header → Type 0
Headers master other header header' = (version_header 1 master ≡ ok header) × (version_header 2 other ≡ ok header')

-- their places are small
pub fits : (master other : List ℕ) (header header' : Header) → Headers master other header header' → FramesWithin header header'
fits master other header header' both =
    let m = has 1 master header both.0 in
    let o = has 2 other header' both.1 in
    let lies = (is_master master m.stream m.reads m.is).lies in
    let acc = other_accepted other header' o in
    let count : (header_of master).initial_count ≡ header.initial_count = ap (λ (h : Header). h.initial_count) m.header_is in
    (omega (arith, lies.opening_fits, lies.small, count), omega (arith, acc.first_within, acc.small, acc.size))

-- an image in front of the lent bytes beyond
front_of_lem : (n : ℕ) (memory lent drawn : List ℕ) → length memory ≡ n → memory ≡ drawn → stored memory lent ≡ drawn ++ drop n lent
front_of_lem n memory lent drawn size e = ap₂ (λ (l : List ℕ) (k : ℕ). l ++ drop k lent) e size

played_size : (n v : ℕ) (writes : List WriteRecord) → length (played (replicate n v) writes) ≡ n
played_size n v writes = played_length (replicate n v) writes ∙ length-replicate n v

module _ (master other : List ℕ) (header header' : Header) (m : Has 1 master header) (o : Has 2 other header') where
  two : header'.version ≡ 2
  two = sym (other_accepted other header' o).version ∙ o.is

  is : IsMaster master m.stream
  is = is_master master m.stream m.reads m.is

  agree_by_lem : agree m.stream o.stream ≡ agree_by master header other header' (master_drawn pcm_size master header) (other_drawn pcm_size other header')
  agree_by_lem =
      agree_is other header' o.stream (other_accepted other header' o) two master m.stream is
      ∙ ap (λ (h : Header). agree_by master h other header' (master_drawn pcm_size master h) (other_drawn pcm_size other header')) m.header_is

  front : (s : Stream) (lent : List ℕ) (drawn : List ℕ) → image_of s ≡ drawn → stored (image_of s) lent ≡ drawn ++ drop pcm_size lent
  front s lent drawn e = front_of_lem pcm_size (image_of s) lent drawn (played_size pcm_size 0x80 (opening_writes s)) e

  after : (answer : Compared) (passed : Bool) (s : Stream) (found : Checked Stream) (lent : List ℕ) → answer ≡ agreed passed → found ≡ ok s → image_after answer found lent ≡ stored (image_of s) lent
  unfolding image_after
  after answer passed s found lent e f = ap₂ (λ (x : Compared) (r : Checked Stream). image_after x r lent) e f

  module _ (image image' : List ℕ) (room : pcm_size ≤ length image) (room' : pcm_size ≤ length image') where
    agreed_is : compared master other (length image) (length image') ≡ agreed (agree m.stream o.stream)
    agreed_is = both_agreed master other (length image) (length image') header header' m o room room'

    master_drawn_lem : image_after (compared master other (length image) (length image')) (read master) image ≡ master_drawn pcm_size master header ++ drop pcm_size image
    master_drawn_lem =
        after _ _ m.stream (read master) image agreed_is m.reads
        ∙ front m.stream image (master_drawn pcm_size master header)
        (master_image other header' o.stream (other_accepted other header' o) two master m.stream is ∙ ap (master_drawn pcm_size master) m.header_is)

    other_drawn_lem : image_after (compared master other (length image) (length image')) (read other) image' ≡ other_drawn pcm_size other header' ++ drop pcm_size image'
    other_drawn_lem =
        after _ _ o.stream (read other) image' agreed_is o.reads
        ∙ front o.stream image' (other_drawn pcm_size other header') (other_image_lem other header' o.stream (other_accepted other header' o) two)

    -- the answer and the images that were drawn, each in a part as long as an image
    whole : (size : ℕ) (part part' e e' : List ℕ) (passed : Bool) → size ≡ pcm_size → length part ≡ size → length part' ≡ size
        → Drawn passed master header other header' part part' e e' → (answer : Compared) → answer ≡ agreed passed
        → ComparedWith answer master other image image' (e ++ drop size image) (e' ++ drop size image')
    whole size part part' e e' passed is-size long long' is answer says =
        let drawn : e ≡ master_drawn pcm_size master header = is.1 ∙ ap (λ (n : ℕ). master_drawn n master header) (long ∙ is-size) in
        let drawn' : e' ≡ other_drawn pcm_size other header' = is.2 ∙ ap (λ (n : ℕ). other_drawn n other header') (long' ∙ is-size) in
        let agrees = agree_by_lem ∙ ap₂ (agree_by master header other header') (sym drawn) (sym drawn') ∙ sym is.0 in (
          says ∙ sym (agreed_is ∙ ap agreed agrees),
          ap₂ (λ (l : List ℕ) (n : ℕ). l ++ drop n image) drawn is-size ∙ sym master_drawn_lem,
          ap₂ (λ (l : List ℕ) (n : ℕ). l ++ drop n image') drawn' is-size ∙ sym other_drawn_lem,
        )

-- WITH THE IMAGES THAT ARE LENT

module _ (master other : List ℕ) (header header' : Header) (both : Headers master other header header') (image image' : List ℕ) where
  abbrev m : Has 1 master header
  m = has 1 master header both.0

  abbrev o : Has 2 other header'
  o = has 2 other header' both.1

  pub with_short_master : length image < pcm_size → (answer : Compared) → answer ≡ refused_file 1 24 0 → ComparedWith answer master other image image' image image'
  with_short_master h answer is =
      refused_with master other image image' answer 1 24 0 is (master_short master other (length image) (length image') header header' m o h)

  pub with_short_other : pcm_size ≤ length image → length image' < pcm_size → (answer : Compared) → answer ≡ refused_file 2 24 0
      → ComparedWith answer master other image image' image image'
  with_short_other h h' answer is =
      refused_with master other image image' answer 2 24 0 is (other_short master other (length image) (length image') header header' m o h h')

  -- each drawn in a part as long as an image
  pub with_images : (room : pcm_size ≤ length image) (room' : pcm_size ≤ length image') (size : ℕ) (part part' e e' : List ℕ) (passed : Bool)
      → size ≡ pcm_size → length part ≡ size → length part' ≡ size → Drawn passed master header other header' part part' e e'
      → (answer : Compared) → answer ≡ agreed passed → ComparedWith answer master other image image' (e ++ drop size image) (e' ++ drop size image')
  with_images = whole master other header header' m o image image'
