-- The types of a lent run, of a run that is lent again, of a lent file and of a length, as the walks of the functions that store records
-- write them.
use mir.Syntax.{Ty, named, erased, mut, imm, w8, w64, ty_int, ty_ref}
use denote.Memory.{pointee}
use denote.Slice.{slice_ty}
use Rattle.base_format.specs.contracts.operation.WriteRecord as T

abbrev pub slice : Ty
slice = slice_ty (ty_ref (named 0) mut (pointee (T.the_row).written))

abbrev pub eref : Ty
eref = ty_ref erased mut (pointee (T.the_row).written)

abbrev pub eslice : Ty
eslice = slice_ty eref

abbrev pub bytes : Ty
bytes = slice_ty (ty_ref (named 1) imm (ty_int w8))

abbrev pub word : Ty
word = ty_int w64
