pub mod MakeCalls
