-- The theorem of demand 3, whose commands a message ends, what each call says that it ended, and the drives that break
-- the demand or say it wrongly; then what these stand on.
pub mod Demand
pub mod Traces
pub mod Others
pub mod Ended
pub mod Summed
pub mod Sayings
pub mod Drives
pub mod TwoHosts
pub mod Held
pub mod HeldTrace
mod Stopping
mod Nth
mod Totals
mod Fates
mod Kept
mod Calls
mod Agreeing
mod Computing
