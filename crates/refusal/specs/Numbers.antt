-- Document 01, "Turned away": the number of each refusal.
use Rattle.std.specs.Prelude.{ℕ}
use Rattle.refusal.specs.declared.Reason.{Reason}
use Rattle.refusal.specs.declared.Reason.TheVariants.{OverLimit, StartAboveEnd, EndAboveReference, ForeignByte}
use Rattle.refusal.specs.declared.Reason.TheVariants.{ForeignNormalByte, OutputTooShort, BadDigestText}
use Rattle.refusal.specs.declared.Reason.TheVariants.{TextNotAccepted, NoRoomForImage, ImageNotWellFormed}
use Rattle.refusal.specs.declared.Reason.TheVariants.{OtherReference, UnchangedAllele, NoFreeRecord, NoPoolRoom}
use Rattle.refusal.specs.declared.Reason.TheVariants.{NoJournalRoom, NoSuchNumber, NotActive, NothingToUndo}
use Rattle.refusal.specs.declared.Reason.TheVariants.{NoDataLine, RefDiffers, NoAlternate}

abbrev pub number_of : Reason → ℕ
number_of OverLimit = 1
number_of StartAboveEnd = 2
number_of EndAboveReference = 3
number_of ForeignByte = 4
number_of ForeignNormalByte = 5
number_of OutputTooShort = 6
number_of BadDigestText = 7
number_of TextNotAccepted = 8
number_of NoRoomForImage = 9
number_of ImageNotWellFormed = 10
number_of OtherReference = 11
number_of UnchangedAllele = 12
number_of NoFreeRecord = 13
number_of NoPoolRoom = 14
number_of NoJournalRoom = 15
number_of NoSuchNumber = 16
number_of NotActive = 17
number_of NothingToUndo = 18
number_of NoDataLine = 19
number_of RefDiffers = 20
number_of NoAlternate = 21
