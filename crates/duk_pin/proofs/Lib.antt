pub mod CopyIntoFront
pub mod DigitValues
pub mod XorOfNibbles
pub mod FieldsWrittenAndRead
pub mod OnePinOneBlock
pub mod PinInField
