pub mod FormatLaws
