-- Mark on expectations that come as bytes. The other functions are a call's answer in numbers (`answers/specs/Numbers`).
pub mod Marked
