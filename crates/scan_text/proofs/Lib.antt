pub mod DigitText
pub mod Written
