pub mod HostNumbers
