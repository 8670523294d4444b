-- What a club is compared by.
pub mod Contenders
