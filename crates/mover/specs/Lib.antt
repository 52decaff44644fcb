pub mod MoveTried
