pub mod Scanning
pub mod Pricing
pub mod Making
pub mod Tables
pub mod Ints
pub mod Totals
pub mod Cells
pub mod NetPrices
pub mod Undercut
pub mod FloorParts
pub mod Injections
pub mod RowsCost
pub mod Gathering
pub mod Periods
pub mod Rejecting
pub mod Repricing
pub mod Alike
pub mod Alone
pub mod PricesAlike
pub mod Computing
mod Labels
mod Sums
