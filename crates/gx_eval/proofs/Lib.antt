pub mod PlanValues
