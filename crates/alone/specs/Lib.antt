pub mod HowManyBlocked
pub mod NeverOne
