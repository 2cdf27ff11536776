pub mod TwoWays
