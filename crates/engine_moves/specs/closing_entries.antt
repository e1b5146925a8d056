pub mod Courses
pub mod Places
