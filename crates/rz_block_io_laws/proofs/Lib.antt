pub mod Positions
pub mod ReadCourse
pub mod Tables
pub mod WriteCourse
pub mod WriteEnds
