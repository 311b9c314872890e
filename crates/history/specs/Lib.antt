-- Demand 3: what a trace shows, the ledger worked out from it, what the table at its end then holds, and drives that
-- break it. What each call says that it ended, beside the trace, and drives that say it wrongly.
pub mod Trace
pub mod Ledger
pub mod Demand
pub mod Ended
pub mod Drives
pub mod Sayings
pub mod TwoHosts
pub mod Held
