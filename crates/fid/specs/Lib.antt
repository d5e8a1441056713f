pub mod Fid
