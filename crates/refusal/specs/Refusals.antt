-- The numbers of the refusals.
use Rattle.std.specs.Prelude.{ℕ}
use Rattle.refusal.specs.declared.refusals.Refusal.{Refusal}
use Rattle.refusal.specs.declared.refusals.Refusal.TheVariants.{TermOutOfRange, TooFewNumbers, LifetimeTooLong, CarrierNotEmpty, SenderStoreLength, ReceiverStoreLength, SenderStoreFull, AlreadySealed, PathFull, NothingToSend, WindowClosed, TooSoon, NotOutstanding, CarrierFull, NoSuchPlace, FrameInTheAir, NothingToDeliver, BookFull, Malformed, NoCapacity}

abbrev pub refusal_number : Refusal → ℕ
refusal_number TermOutOfRange = 1
refusal_number TooFewNumbers = 2
refusal_number LifetimeTooLong = 3
refusal_number CarrierNotEmpty = 4
refusal_number SenderStoreLength = 5
refusal_number ReceiverStoreLength = 6
refusal_number SenderStoreFull = 7
refusal_number AlreadySealed = 8
refusal_number PathFull = 9
refusal_number NothingToSend = 10
refusal_number WindowClosed = 11
refusal_number TooSoon = 12
refusal_number NotOutstanding = 13
refusal_number CarrierFull = 14
refusal_number NoSuchPlace = 15
refusal_number FrameInTheAir = 16
refusal_number NothingToDeliver = 17
refusal_number BookFull = 18
refusal_number (Malformed fault) = 19
refusal_number NoCapacity = 20
