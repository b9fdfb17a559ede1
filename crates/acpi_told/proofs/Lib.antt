pub mod OneMore
pub mod Unpadded
pub mod PlacedInTurn
pub mod NodesBack
pub mod PartsBack
