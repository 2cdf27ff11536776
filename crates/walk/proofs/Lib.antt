pub mod Youngs
