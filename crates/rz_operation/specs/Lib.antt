pub use Rattle.rz_operation_states.specs.Meaning
pub use Rattle.rz_operation_states.specs.Machine
pub use Rattle.rz_operation_states.specs.Records
pub use Rattle.rz_operation_states.specs.Answers
pub use Rattle.rz_operation_states.specs.Told
pub use Rattle.rz_operation_states.specs.Inside
pub mod Asking
