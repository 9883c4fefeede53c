pub mod Workload
