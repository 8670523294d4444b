-- What a side of a club of a cup comes to; its turning key; what is known of the club.
pub mod CupSides
pub mod KeysOfSeats
