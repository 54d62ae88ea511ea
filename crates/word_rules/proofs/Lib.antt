pub mod DeriveLaws
