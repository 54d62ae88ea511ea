pub mod InputLaws
pub mod VaryingLaws
pub mod WorkgroupLaws
