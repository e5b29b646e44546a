pub mod Status
pub mod FaultLine
pub mod Program
pub mod Laws
