mod Worked
pub mod Tests
pub mod Firsts
pub mod Files
pub mod Forgets
pub mod Rooms
