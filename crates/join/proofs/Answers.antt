-- What joining answers, by the numbers that the code has in hand: a refusal, or the result in the lent buffer.
use Prim.Native.Nat.{ℕ, ◌+◌, ◌-◌, ◌≤◌, ◌<◌}
use mathlib.Core.Path.{◌≡◌, sym, ap, ◌∙◌}
use mathlib.Core.List.{List, ◌++◌}
use native.Mathlib.Nat.{zero-add}
use native.Mathlib.Omega.{arith}
use lib.ListN.{length, drop}
use Rattle.std.specs.Prelude.{Result, Ok, Err, MatchResult}
use Rattle.std.specs.Result.{IsErrAnd}
use Rattle.base_format.specs.declared.header.Header.{Header}
use Rattle.base_format.specs.declared.rule.Refusal.{Refusal}
use Rattle.base_format.specs.Bytes.{AllBytes, be}
use Rattle.base_format.specs.Checked.{Checked, ok, refused}
use Rattle.base_format.specs.Lent.{stored}
use Rattle.base_format.specs.Rule.{refusal, answer_of}
use Rattle.base_format.specs.Size.{file_limit}
use Rattle.base_format.specs.Written.{written}
use Rattle.bytes_read.specs.Put.{put}
use Rattle.bytes_read.proofs.Laws.{put_fits}
use Rattle.check_version.specs.Answer.{version_header}
use Rattle.check_version.proofs.Answers.{Has, has, gone}
use Rattle.join_stream.specs.Join.{NamedFile, in_first, in_second, in_neither, Joining, join_made, join_refused, join_into, first_count, joined, stream_in, size_made, stored_by}
use Rattle.join_stream.proofs.Join.{joins_exactly, both_size}
use Rattle.join_stream.proofs.Refused.{refused_first, refused_second, refused_29, refused_30, refused_23, refused_24}
use Rattle.join_put_second.proofs.Second.{acc, parts, stream_is, first_count_lem}
use Rattle.join_put_file.specs.File.{BothFit}
use Rattle.join_put_file.proofs.File.{numbers}
use Rattle.join.specs.declared.JoinError.{JoinError}
use Rattle.join.specs.Answer.{joined_of, JoinedWith}

-- a refusal writes nothing
pub refuses : (file file' buffer : List ℕ) (answer : Joining ℕ) (named : NamedFile) (n p : ℕ) → join_into file file' (length buffer) ≡ join_refused named n p → answer ≡ join_refused named n p
    → JoinedWith answer file file' buffer buffer
refuses file file' buffer answer named n p e is = (is ∙ ap size_made (sym e), ap (λ (x : Joining (List ℕ)). stored_by x buffer) (sym e))

-- a refused file
pub first_refused : (file file' : List ℕ) (room n p : ℕ) → version_header 2 file ≡ refused n p → join_into file file' room ≡ join_refused in_first n p
first_refused file file' room n p e = (refused_first file file' room n p).1 (gone 2 file n p e)

pub second_refused : (file file' : List ℕ) (room n p : ℕ) (header : Header) → version_header 2 file ≡ ok header → version_header 2 file' ≡ refused n p
    → join_into file file' room ≡ join_refused in_second n p
second_refused file file' room n p header accepted e =
    let h = has 2 file header accepted in
    (refused_second file file' room n p h.stream h.here).1 (gone 2 file' n p e)

-- what a check's answer says behind `map_err`
pub told_ok : (Q : Refusal → JoinError → Type 0) {is : Checked Header} (r : Result Header Refusal) (m : Result Header JoinError) (x : Header) → answer_of r ≡ is
    → MatchResult r (λ (y : Header). m ≡ Ok y) (λ (e : Refusal). IsErrAnd m (Q e)) → m ≡ Ok x → is ≡ ok x
told_ok Q (Ok y) m x e h w = let same : y ≡ x = cc in sym e ∙ ap ok same
told_ok Q (Err why) m x e h w = absurd (rw w at h)

pub told_err : (Q : Refusal → JoinError → Type 0) {is : Checked Header} (r : Result Header Refusal) (m : Result Header JoinError) (y : JoinError) → answer_of r ≡ is
    → MatchResult r (λ (x : Header). m ≡ Ok x) (λ (e : Refusal). IsErrAnd m (Q e)) → m ≡ Err y → (why : Refusal) × (is ≡ refusal why) × Q why y
told_err Q (Ok x) m y e h w = absurd (let z : ◌≡◌ {A = ℕ} 0 1 = cc in omega arith)
told_err Q (Err why) m y e h w = (why, sym e, rw w at h)

pub passed_error : (answer : Result ℕ JoinError) (y z : JoinError) → IsErrAnd answer (λ (e : JoinError). e ≡ y) → y ≡ z → joined_of answer ≡ joined_of (Err z)
passed_error (Ok size) y z h e = absurd h
passed_error (Err x) y z h e = rw (h, e)

-- two accepted files of version 2, with the count of the second's first frame
module _ (file file' : List ℕ) (header header' : Header) (both : (version_header 2 file ≡ ok header) × (version_header 2 file' ≡ ok header')) (bytes : AllBytes file) (bytes' : AllBytes file')
    (frame : ℕ) (frame_is : frame ≡ be 2 file' header'.frame_start) (buffer : List ℕ) where
  abbrev h : Has 2 file header
  h = has 2 file header both.0

  abbrev h' : Has 2 file' header'
  h' = has 2 file' header' both.1

  -- the numbers that are tested
  abbrev operations : ℕ
  operations = header'.initial_count + frame

  abbrev pools : ℕ
  pools = header.pool_count + header'.pool_count

  abbrev size : ℕ
  size = length file + length file' - 40

  abbrev room : ℕ
  room = length buffer

  said : first_count (stream_in file') ≡ operations
  said = first_count_lem file' header' bytes' h' ∙ ap (λ (n : ℕ). header'.initial_count + n) (sym frame_is)

  operations_are : first_count h'.stream ≡ operations
  operations_are = ap first_count (sym (stream_is file' header' bytes' h')) ∙ said

  pools_are : length h.stream.pools + length h'.stream.pools ≡ pools
  pools_are = λ i. (parts file header bytes h).pools_said i + (parts file' header' bytes' h').pools_said i

  -- each file has its header
  pub headers_room : 80 ≤ length file + length file'
  headers_room =
      let o = numbers file header bytes h in
      let o' = numbers file' header' bytes' h' in
      omega (arith, o.payloads, o.opening, o.frames, (acc file header bytes h).size, o'.payloads, o'.opening, o'.frames, (acc file' header' bytes' h').size)

  -- a refusal of both files together
  both_refused : (n : ℕ) {answer : Joining ℕ} → join_into file file' room ≡ join_refused in_neither n 0 → answer ≡ join_refused in_neither n 0 → JoinedWith answer file file' buffer buffer
  both_refused n {answer} e is = refuses file file' buffer answer in_neither n 0 e is

  pub by_29 : {answer : Joining ℕ} → 65535 < operations → answer ≡ join_refused in_neither 29 0 → JoinedWith answer file file' buffer buffer
  by_29 many = both_refused 29 ((refused_29 file file' room h.stream h'.stream bytes bytes' h.here h'.here).1 (omega (arith, many, operations_are)))

  module _ (few : operations ≤ 65535) where
    few_is : first_count h'.stream ≤ 65535
    few_is = omega (arith, few, operations_are)

    pub by_30 : {answer : Joining ℕ} → 65536 < pools → answer ≡ join_refused in_neither 30 0 → JoinedWith answer file file' buffer buffer
    by_30 many = both_refused 30 ((refused_30 file file' room h.stream h'.stream bytes bytes' h.here h'.here).1 (few_is, omega (arith, many, pools_are)))

    module _ (fewer : pools ≤ 65536) where
      fewer_are : length h.stream.pools + length h'.stream.pools ≤ 65536
      fewer_are = omega (arith, fewer, pools_are)

      pub by_23 : {answer : Joining ℕ} → file_limit < size → answer ≡ join_refused in_neither 23 0 → JoinedWith answer file file' buffer buffer
      by_23 large =
          both_refused 23 ((refused_23 file file' room h.stream h'.stream bytes bytes' h.here h'.here).1 (few_is, fewer_are, omega (arith, large)))

      module _ (small : size ≤ file_limit) where
        pub by_24 : {answer : Joining ℕ} → room < size → answer ≡ join_refused in_neither 24 0 → JoinedWith answer file file' buffer buffer
        by_24 short =
            both_refused 24 ((refused_24 file file' room h.stream h'.stream bytes bytes' h.here h'.here).1 (few_is, fewer_are, omega (arith, small), omega (arith, short)))

        module _ (fits : size ≤ room) where
          -- nothing is refused
          pub writable : BothFit file header file' header' room
          writable =
              record { here = both.0; here' = both.1; first_count = omega (arith, few, said); pool_count = fewer; small = omega (arith, small); fits = omega (arith, fits) }

          abbrev result : List ℕ
          result = written (joined (stream_in file) (stream_in file'))

          long : length result + 40 ≡ length file + length file'
          long =
              (λ i. length (written (joined (stream_is file header bytes h i) (stream_is file' header' bytes' h' i))) + 40)
              ∙ both_size file file' h.stream h'.stream bytes bytes' h.here h'.here

          made : join_into file file' room ≡ join_made result
          made =
              (joins_exactly file file' room result).1 (record {
                a = h.stream;
                b = h'.stream;
                reads = h.reads;
                reads' = h'.reads;
                two = h.is;
                two' = h'.is;
                first_count = few_is;
                pool_count = fewer_are;
                small = omega (arith, small, long);
                fits = omega (arith, fits, long);
                result = λ i. written (joined (sym (stream_is file header bytes h) i) (sym (stream_is file' header' bytes' h') i));
              })

          -- the result stands at the buffer's start
          pub writes : {after : List ℕ} → after ≡ put (written (joined (stream_in file) (stream_in file'))) 0 buffer → JoinedWith (join_made size) file file' buffer after
          writes puts =
              let stands : put result 0 buffer ≡ stored result buffer = put_fits result 0 buffer (omega (arith, long, fits)) ∙ ap (λ (n : ℕ). result ++ drop n buffer) (zero-add (length result)) in
              let is : size ≡ length result = omega (arith, long) in
              (ap join_made is ∙ ap size_made (sym made), puts ∙ stands ∙ ap (λ (x : Joining (List ℕ)). stored_by x buffer) (sym made))
