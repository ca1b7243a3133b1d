-- The number of each refusal, and the words that are printed for it. Assumes nothing.
use Rattle.std.specs.Prelude.{ℕ, List, codes}
use Rattle.rules.specs.declared.refusal.Refusal.{Refusal}
use Rattle.rules.specs.declared.refusal.Refusal.TheVariants.{Missing, Full, TooMuch, Copied, Held, Unordered, Unfit, NoVolume, Spent}

abbrev pub number_of : Refusal → ℕ
number_of Missing = 1
number_of Full = 2
number_of TooMuch = 3
number_of Copied = 4
number_of Held = 5
number_of Unordered = 6
number_of Unfit = 7
number_of NoVolume = 8
number_of Spent = 9

abbrev pub words_of : Refusal → List ℕ
words_of Missing = codes "no such disk, hold, slot or number of blocks"
words_of Full = codes "no block is left that may be used"
words_of TooMuch = codes "no room for another disk, hold or slot"
words_of Copied = codes "a disk is a copy of it"
words_of Held = codes "it has holds"
words_of Unordered = codes "not holds of one disk, the older first"
words_of Unfit = codes "no stream that the disk can take"
words_of NoVolume = codes "no volume on the device"
words_of Spent = codes "no moment or name is left"
