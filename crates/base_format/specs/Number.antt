-- The numbers of the refusals.
use Rattle.std.specs.Prelude.{ℕ}
use Rattle.base_format.specs.declared.rule.Rule.{Rule}
use Rattle.base_format.specs.declared.rule.Rule.TheVariants.{HeaderShort, Letters, Version, Voices, Flags, Period, CardEntry, Counts, Directory, PoolEntry, PoolPayload, Sections, Opcode, CutOff}
use Rattle.base_format.specs.declared.rule.Rule.TheVariants.{NoTarget, WriteAddress, BulkRange, NoPool, CopyRange, Ending}
use Rattle.base_format.specs.declared.rule.Rule.TheVariants.{OtherVersion, PcmOrder, ResultSize, LentSize, OtherFile, OtherIndex, NoFrame, NoteRange, FrameOperations, PoolCount}

abbrev pub number_of : Rule → ℕ
number_of HeaderShort = 1
number_of Letters = 2
number_of Version = 3
number_of Voices = 4
number_of Flags = 5
number_of Period = 6
number_of CardEntry = 7
number_of Counts = 8
number_of Directory = 9
number_of PoolEntry = 10
number_of PoolPayload = 11
number_of Sections = 12
number_of Opcode = 13
number_of CutOff = 14
number_of NoTarget = 15
number_of WriteAddress = 16
number_of BulkRange = 17
number_of NoPool = 18
number_of CopyRange = 19
number_of Ending = 20
number_of OtherVersion = 21
number_of PcmOrder = 22
number_of ResultSize = 23
number_of LentSize = 24
number_of OtherFile = 25
number_of OtherIndex = 26
number_of NoFrame = 27
number_of NoteRange = 28
number_of FrameOperations = 29
number_of PoolCount = 30
