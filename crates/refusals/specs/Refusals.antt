-- The number, the place and the layer of every refusal. Assumes nothing.
use Rattle.std.specs.Prelude.{ℕ, List, codes}
use Rattle.refusals.specs.declared.Layer.{Layer}
use Rattle.refusals.specs.declared.Layer.TheVariants.{Reading, Loading, Asking, Writing}
use Rattle.refusals.specs.declared.Fault.{Fault}
use Rattle.refusals.specs.declared.Fault.TheVariants.{ByteMissing, ForbiddenBit, AbsentValue, OutOfRange, BytesFollow, NotALetter, NotANumber, NoSuchQubit, EqualQubits, NoLineEnd, TextTooLong}
use Rattle.refusals.specs.declared.LoadRefusal.{LoadRefusal}
use Rattle.refusals.specs.declared.LoadRefusal.TheVariants.{Unreadable, UnknownSpider, TooManySpiders as TooManyToLoad, TooManyLegs, ScalarOutOfRange}
use Rattle.refusals.specs.declared.AskRefusal.{AskRefusal}
use Rattle.refusals.specs.declared.AskRefusal.TheVariants.{NoFit, RowLength, RowByte, HoldSetting}
use Rattle.refusals.specs.declared.WriteRefusal.{WriteRefusal}
use Rattle.refusals.specs.declared.WriteRefusal.TheVariants.{BufferShort, FactorOutOfRange, TooManySpiders as TooManyToWrite, WrongCount}

-- the most bytes that a circuit text may have
abbrev pub text_limit : ℕ
text_limit = 65536

abbrev pub fault_number : Fault → ℕ
fault_number (ByteMissing p) = 1
fault_number (ForbiddenBit p) = 2
fault_number (AbsentValue p) = 3
fault_number (OutOfRange p) = 4
fault_number (BytesFollow p) = 5
fault_number (NotALetter p) = 21
fault_number (NotANumber p) = 22
fault_number (NoSuchQubit p) = 23
fault_number (EqualQubits p) = 24
fault_number (NoLineEnd p) = 25
fault_number TextTooLong = 26

-- the byte at which it is
abbrev pub fault_place : Fault → ℕ
fault_place (ByteMissing p) = p
fault_place (ForbiddenBit p) = p
fault_place (AbsentValue p) = p
fault_place (OutOfRange p) = p
fault_place (BytesFollow p) = p
fault_place (NotALetter p) = p
fault_place (NotANumber p) = p
fault_place (NoSuchQubit p) = p
fault_place (EqualQubits p) = p
fault_place (NoLineEnd p) = p
fault_place TextTooLong = text_limit

abbrev pub fault_layer : Fault → Layer
fault_layer f = Reading

abbrev pub load_number : LoadRefusal → ℕ
load_number (Unreadable f i) = fault_number f
load_number (UnknownSpider i) = 11
load_number (TooManyToLoad i) = 12
load_number (TooManyLegs i) = 13
load_number (ScalarOutOfRange i) = 14

-- the item at which it is, but a fault of the source keeps the place that it had there
abbrev pub load_place : LoadRefusal → ℕ
load_place (Unreadable f i) = fault_place f
load_place (UnknownSpider i) = i
load_place (TooManyToLoad i) = i
load_place (TooManyLegs i) = i
load_place (ScalarOutOfRange i) = i

abbrev pub load_layer : LoadRefusal → Layer
load_layer (Unreadable f i) = fault_layer f
load_layer (UnknownSpider i) = Loading
load_layer (TooManyToLoad i) = Loading
load_layer (TooManyLegs i) = Loading
load_layer (ScalarOutOfRange i) = Loading

abbrev pub ask_number : AskRefusal → ℕ
ask_number NoFit = 31
ask_number RowLength = 32
ask_number (RowByte p) = 33
ask_number (HoldSetting p) = 51

-- the byte of the row or the setting, else 0
abbrev pub ask_place : AskRefusal → ℕ
ask_place NoFit = 0
ask_place RowLength = 0
ask_place (RowByte p) = p
ask_place (HoldSetting p) = p

abbrev pub ask_layer : AskRefusal → Layer
ask_layer r = Asking

abbrev pub write_number : WriteRefusal → ℕ
write_number BufferShort = 41
write_number FactorOutOfRange = 42
write_number TooManyToWrite = 43
write_number WrongCount = 44

abbrev pub write_place : WriteRefusal → ℕ
write_place r = 0

abbrev pub write_layer : WriteRefusal → Layer
write_layer r = Writing

-- the word for a layer
abbrev pub layer_word : Layer → List ℕ
layer_word Reading = codes "reading"
layer_word Loading = codes "loading"
layer_word Asking = codes "asking"
layer_word Writing = codes "writing"
