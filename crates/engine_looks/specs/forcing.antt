pub mod Forces
pub mod Playing
